-- Lemmas of crates below, for the crates above.
pub use Rattle.mesh_machine.proofs as machine
pub use Rattle.mesh_paths.proofs as paths
-- Lemmas for crates above, each file with the crates that cite it.
pub mod GapsLemmas  -- emulate
-- Lemmas of this crate alone.
mod KindLemmas
mod RouteLaw
mod Common
