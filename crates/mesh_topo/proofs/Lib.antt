-- Lemmas for crates above, each file with the crates that cite it.
pub mod AdvertisedLemmas  -- renewal, replay
pub mod Soundness  -- machine
pub mod TcSetsLemmas  -- core
-- Lemmas of this crate alone.
pub mod Full
mod RowKinds
mod Common
