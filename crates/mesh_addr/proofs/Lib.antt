-- Lemmas for crates above, each file with the crates that cite it.
pub mod Fewest  -- packet
pub mod OneLeast  -- packet
pub mod ReadAgain  -- packet
pub mod Refusing  -- packet
pub mod Taking  -- packet
pub mod Writable  -- packet, trace
-- Lemmas of this crate alone.
mod Calls
mod Choosing
mod Limits
mod Loops
mod Outcomes
mod Padding
mod Common
