-- Lemmas for crates above, each file with the crates that cite it.
pub mod Kept  -- radio, run
-- Lemmas of this crate alone.
mod Clauses
mod EventLemmas
mod Spent
mod Until
mod Common
