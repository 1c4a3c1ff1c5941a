pub mod Fields
pub mod Grammar
pub mod Items
pub mod Least
pub mod Reading
