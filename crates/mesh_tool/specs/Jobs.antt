pub mod Calls
pub mod Commands
pub mod Endings
pub mod Lines
pub mod Status
pub mod Works
