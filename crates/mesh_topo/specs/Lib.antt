pub mod Advertised
pub mod Answers
pub mod Same
pub mod Sets
pub mod TcSets
pub mod Tuples
