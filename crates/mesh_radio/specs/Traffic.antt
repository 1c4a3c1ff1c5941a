pub mod Air
pub mod Flights
pub mod Traffic
