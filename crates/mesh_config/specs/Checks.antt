pub mod Checks
pub mod Compared
