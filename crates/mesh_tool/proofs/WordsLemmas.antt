pub mod CommandLines
pub mod EmulateLines
pub mod FirstFault
pub mod MakeLines
pub mod Orders
pub mod Ranges
pub mod Reading
