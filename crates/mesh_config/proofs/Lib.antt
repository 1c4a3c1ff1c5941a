-- Lemmas for crates above, each file with the crates that cite it.
pub mod Builds  -- emulate
pub mod Sounds  -- emulate
-- Lemmas of this crate alone.
mod Apart
mod ChecksLemmas
mod JoinFacts
mod KeysLemmas
mod Qualities
mod RunLaws
mod Said
mod StatedLemmas
mod Told
mod Common
