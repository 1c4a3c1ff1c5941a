pub mod Same
pub mod Sets
pub mod Tuples
