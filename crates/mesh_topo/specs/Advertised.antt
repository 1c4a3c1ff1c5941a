pub mod Offers
pub mod Selectors
pub mod Spans
