pub mod Alike
pub mod Due
pub mod Events
pub mod Items
pub mod Laws
pub mod Leading
pub mod Standing
