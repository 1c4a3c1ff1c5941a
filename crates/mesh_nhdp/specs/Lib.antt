pub use Rattle.mesh_expire.specs as expire
pub use Rattle.mesh_links.specs as links
pub mod Calls
pub mod Changes
pub mod Follows
pub mod Hearings
pub mod Interfaces
pub mod Judged
pub mod Laws
pub mod NhdpState
pub mod Repeats
pub mod Rows
pub mod Staying
pub mod Wanted
