pub use Rattle.mesh_trace.specs as trace
pub mod Checking
pub mod Command
pub mod Traffic
