pub mod Posts
pub mod System
