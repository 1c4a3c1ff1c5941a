-- Lemmas of crates below, for the crates above.
pub use Rattle.mesh_texts.proofs.machine
-- Lemmas for crates above, each file with the crates that cite it.
pub mod PositionsLemmas  -- replay
pub mod SpellingLemmas  -- replay
-- Lemmas of this crate alone.
pub mod ReadingLemmas
mod Common
