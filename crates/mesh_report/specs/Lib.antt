pub mod Digits
pub mod Lanes
pub mod Laws
pub mod Lines
pub mod Packets
pub mod Pieces
pub mod Readings
