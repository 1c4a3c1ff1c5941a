pub use Rattle.mesh_wire.specs.addr
pub use Rattle.mesh_nhdp.specs.expire
pub use Rattle.mesh_flood.specs as flood
pub use Rattle.mesh_nhdp.specs.links
pub use Rattle.mesh_wire.specs.packet
pub use Rattle.mesh_wire.specs.tlv
pub use Rattle.mesh_wire.specs as wire
pub mod Draws
pub mod Frames
pub mod Laws
pub mod Machine
pub mod Messages
pub mod Names
pub mod Net
pub mod NetRun
pub mod Renewal
pub mod Said
pub mod Sendable
pub mod Sending
pub mod Traffic
pub mod Ways
