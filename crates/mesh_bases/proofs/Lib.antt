-- Lemmas for crates above, each file with the crates that cite it.
pub mod Existing  -- core
pub mod HeldLemmas  -- core, replay
pub mod Moments  -- replay
pub mod RowMoments  -- core, replay
pub mod SendingLemmas  -- probe, replay
pub mod Staying  -- core, replay
-- Lemmas of this crate alone.
mod Chosen
mod Pushed
mod ReadingLemmas
mod Selectors
mod Common
