pub mod Existing
pub mod Held
pub mod Reading
pub mod Renewed
pub mod Selecting
pub mod Sending
