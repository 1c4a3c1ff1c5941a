pub mod Ending
pub mod Outdated
pub mod Promises
pub mod Until
