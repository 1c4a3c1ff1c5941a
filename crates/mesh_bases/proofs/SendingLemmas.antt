pub mod PartRows
pub mod Written
