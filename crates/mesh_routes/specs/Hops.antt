pub mod Arcs
pub mod Costs
pub mod NextHop
pub mod Own
pub mod Owners
pub mod Ways
