pub mod Opened
pub mod Telling
pub mod Texts
