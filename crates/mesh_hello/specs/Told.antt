pub mod Mine
pub mod Receive
pub mod Sender
pub mod Telling
