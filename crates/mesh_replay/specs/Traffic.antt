pub mod Air
pub mod Traffic
