-- Lemmas of crates below, for the crates above.
pub use Rattle.mesh_hello.proofs as hello
pub use Rattle.mesh_nhdp.proofs as nhdp
pub use Rattle.mesh_wire.proofs.packet
pub use Rattle.mesh_wire.proofs.tlv
pub use Rattle.mesh_topo.proofs as topo
pub use Rattle.mesh_wire.proofs as wire
-- Lemmas for crates above, each file with the crates that cite it.
pub mod Arcs  -- radio, replay
pub mod Effects  -- core, texts
pub mod FirstDue  -- radio, replay
pub mod Hops  -- core, trace, replay
pub mod Leaving  -- radio, replay
pub mod Opening  -- core, replay, run
pub mod Originators  -- core, renewal, replay
pub mod Places  -- radio, replay
pub mod Sendables  -- core
pub mod Sent  -- radio, replay
pub mod Soundness  -- core, replay
pub mod Spreading  -- radio, replay
pub mod Tables  -- replay
pub mod Takes  -- core, replay
pub mod Through  -- emulate, texts
-- Lemmas of this crate alone.
mod Given
mod LeavingArcs
mod Saying
mod Common
