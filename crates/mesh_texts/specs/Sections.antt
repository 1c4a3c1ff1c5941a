pub mod Order
pub mod Section
