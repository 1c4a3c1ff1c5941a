-- Lemmas for crates above, each file with the crates that cite it.
pub mod Joined  -- dump
pub mod OneListing  -- dump
pub mod Tables  -- dump
pub mod Vectors  -- dump
-- Lemmas of this crate alone.
mod Decimals
mod Digits
mod LaidHex
mod Messages
mod Readings
mod Turns
mod Common
