pub mod Lines
pub mod Made
pub mod Pairs
pub mod Routes
pub mod Scenario
pub mod Stated
