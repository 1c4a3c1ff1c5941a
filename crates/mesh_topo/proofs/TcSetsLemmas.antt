pub mod Laws
pub mod Originators
pub mod Saying
