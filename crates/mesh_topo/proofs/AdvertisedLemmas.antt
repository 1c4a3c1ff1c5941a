pub mod Advertising
pub mod Best
pub mod Cutting
pub mod Offering
pub mod RowOrder
