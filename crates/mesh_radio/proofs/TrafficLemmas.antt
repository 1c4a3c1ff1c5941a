pub mod Flights
pub mod Sending
