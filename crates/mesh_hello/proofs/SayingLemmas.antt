pub mod Message
pub mod OneRow
pub mod OwnRows
pub mod Parts
pub mod RowCounts
pub mod Somewhere
pub mod Whose
