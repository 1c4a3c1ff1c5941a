pub mod Kept
pub mod Positions
pub mod Runs
pub mod Tellings
pub mod Whole
