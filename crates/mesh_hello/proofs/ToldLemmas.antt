pub mod Local
pub mod Mines
pub mod Senders
