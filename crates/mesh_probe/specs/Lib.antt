pub mod Flood
pub mod Hearing
pub mod Laws
pub mod Probes
pub mod Text
