pub mod Decisions
pub mod Dotted
pub mod Laws
pub mod Text
pub mod Trips
