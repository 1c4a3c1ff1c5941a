pub mod Dump
pub mod Empty
pub mod Laws
pub mod Lines
pub mod Pairs
pub mod Values
