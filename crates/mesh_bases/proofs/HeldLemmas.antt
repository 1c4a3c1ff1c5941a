pub mod Fates
pub mod Quiet
pub mod Taken
