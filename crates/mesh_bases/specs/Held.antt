pub mod Held
pub mod Outbox
pub mod Reading
pub mod RouterState
pub mod Taking
