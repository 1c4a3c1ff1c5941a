pub use Rattle.mesh_settled.specs.machine
pub mod Laws
pub mod Lines
pub mod Network
pub mod Printed
pub mod Runs
pub mod Sections
pub mod Trace
