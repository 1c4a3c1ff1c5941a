-- Lemmas for crates above, each file with the crates that cite it.
pub mod Keys  -- laws, machine, probe
pub mod Room  -- machine
pub mod Soundness  -- machine
-- Lemmas of this crate alone.
mod Choices
mod Common
