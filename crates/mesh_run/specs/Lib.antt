pub mod Attaching
pub mod Ends
pub mod Run
pub mod Text
pub mod Turns
