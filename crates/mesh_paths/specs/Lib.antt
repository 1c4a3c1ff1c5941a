pub mod Frontier
pub mod Joined
pub mod Parts
pub mod Paths
pub mod Reached
pub mod Search
pub mod SettledRoutes
pub mod Tree
