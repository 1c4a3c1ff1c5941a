pub mod Occurrences
pub mod Opening
pub mod Scene
pub mod Traffic
pub mod Value
