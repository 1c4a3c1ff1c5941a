pub mod Chosen
pub mod Telling
pub mod Words
