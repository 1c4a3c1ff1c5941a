-- Lemmas for crates above, each file with the crates that cite it.
pub mod Summaries  -- hello, nhdp
-- Lemmas of this crate alone.
mod ByAddress
mod Dropping
pub mod Ended
mod KnownLinks
mod Listed
pub mod Owning
mod Sets
mod Spoken
mod Walks
mod Common
