pub mod LeastCosts
pub mod Searching
pub mod Tests
pub mod WayOrder
