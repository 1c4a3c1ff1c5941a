pub mod Emulation
pub mod Laws
pub mod Making
pub mod Parts
pub mod Prepared
pub mod Wants
