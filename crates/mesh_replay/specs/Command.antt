pub mod Laws
pub mod Marks
pub mod Parts
pub mod Replays
pub mod Split
pub mod Tells
pub mod Worked
