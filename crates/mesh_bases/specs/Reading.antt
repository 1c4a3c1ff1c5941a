pub mod Content
pub mod Message
