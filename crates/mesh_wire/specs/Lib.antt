pub use Rattle.mesh_addr.specs as addr
pub use Rattle.mesh_packet.specs as packet
pub use Rattle.mesh_tlv.specs as tlv
pub mod Answers
pub mod Collects
pub mod Drafts
pub mod Entries
pub mod Examples
pub mod Hello
pub mod HelloHeading
pub mod HelloRows
pub mod HelloRules
pub mod KeptParts
pub mod Laws
pub mod Lines
pub mod Made
pub mod Metrics
pub mod OctetKinds
pub mod Parts
pub mod Rehop
pub mod RowRules
pub mod Rows
pub mod Rules
pub mod Runs
pub mod Singles
pub mod Sizes
pub mod Spellings
pub mod Standing
pub mod Summaries
pub mod Tc
pub mod TcHeading
pub mod TcRules
pub mod Times
pub mod Values
pub mod Writes
