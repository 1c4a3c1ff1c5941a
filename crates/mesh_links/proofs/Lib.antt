pub mod Admitted
mod Left
pub mod Renewed
mod Room
mod Tables
pub mod Tied
mod Common
