-- Lemmas of crates below, for the crates above.
pub use Rattle.mesh_settled.proofs.machine
-- Lemmas for crates above, each file with the crates that cite it.
pub mod Cuts  -- emulate, replay, trace
pub mod Gaps  -- emulate
pub mod LineTexts  -- emulate, replay
pub mod Marked  -- emulate, replay
pub mod ReadBack  -- emulate
pub mod RouteLines  -- replay
pub mod RunStates  -- emulate
pub mod TraceSteps  -- emulate
-- Lemmas of this crate alone.
pub mod LineLists
mod LinesLemmas
mod SectionTexts
mod SectionsLemmas
mod States
mod WholeTexts
mod Common
