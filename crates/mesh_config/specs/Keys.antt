pub mod Document
pub mod Faults
pub mod Ports
pub mod Values
