-- Lemmas for crates above, each file with the crates that cite it.
pub mod Collect  -- core, machine, nhdp
pub mod Fits  -- nhdp, replay
pub mod Lookups  -- nhdp
pub mod Places  -- nhdp
pub mod SayingLemmas  -- machine, nhdp
pub mod Sorted  -- nhdp
pub mod ToldLemmas  -- nhdp
mod Common
