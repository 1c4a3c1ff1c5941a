pub use Rattle.mesh_paths.specs as paths
pub use Rattle.mesh_machine.specs as machine
pub mod Gaps
pub mod Kinds
pub mod Law
pub mod LeastRoutes
