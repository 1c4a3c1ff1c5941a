pub mod Ending
pub mod Links
pub mod Owners
pub mod Rulings
