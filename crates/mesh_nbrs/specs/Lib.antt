pub mod Losts
pub mod Neighbours
pub mod Owners
pub mod Parts
pub mod Same
pub mod TwoHops
