pub mod Deferred
pub mod Event
pub mod Holding
