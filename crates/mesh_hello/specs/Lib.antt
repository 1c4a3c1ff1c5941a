pub mod Gathers
pub mod Saying
pub mod Told
