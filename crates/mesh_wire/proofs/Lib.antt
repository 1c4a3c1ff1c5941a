-- Lemmas of crates below, for the crates above.
pub use Rattle.mesh_packet.proofs as packet
pub use Rattle.mesh_tlv.proofs as tlv
-- Lemmas for crates above, each file with the crates that cite it.
pub mod Ascending  -- replay
pub mod Behind  -- replay
pub mod Collecting  -- replay
pub mod EachDistance  -- probe
pub mod Hops  -- machine, probe, replay
pub mod OneHello  -- replay, report
pub mod OneTc  -- replay, report
pub mod RowLines  -- replay
pub mod Single  -- report
pub mod Statuses  -- trace
pub mod Standing  -- machine, probe, replay, trace
-- Lemmas of this crate alone.
mod Addresses
mod Collected
mod Deciding
mod EachHello
mod EachTc
mod Entries
mod Examples
mod ExamplesTc
mod FirstTest
mod Fits
pub mod Further
mod Gathered
mod Gathering
mod Headings
mod HelloHeading
mod HelloRead
mod HelloRows
mod HelloRuled
mod HelloWritten
mod InOrder
mod Kept
mod Laid
mod LeastAlone
mod LinesSay
mod Made
mod OctetKinds
mod Ranks
mod Reading
mod RowsSay
mod Ruled
mod RunLaws
mod Slots
mod Spellings
mod TcHeading
mod TcRead
mod TcRows
mod TcRuled
mod TcWhole
mod TcWritten
mod Tests
mod Texts
mod Values
mod Common
