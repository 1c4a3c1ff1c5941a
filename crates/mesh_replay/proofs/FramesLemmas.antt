pub mod Items
pub mod Once
