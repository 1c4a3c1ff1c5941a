pub mod CommandLines
pub mod FirstFault
pub mod Words
