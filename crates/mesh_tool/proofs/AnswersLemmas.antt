pub mod Answering
pub mod Reads
