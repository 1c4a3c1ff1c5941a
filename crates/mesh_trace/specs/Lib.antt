pub use Rattle.mesh_texts.specs.machine
pub mod Positions
pub mod Reading
pub mod Spelling
