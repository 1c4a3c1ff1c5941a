-- Lemmas for crates above, each file with the crates that cite it.
pub mod Deciding  -- renewal
pub mod Empty  -- machine
pub mod HelloSound  -- machine
pub mod Limits  -- machine, replay
pub mod LiveSound  -- machine
pub mod TcCounts  -- core, probe
-- Lemmas of this crate alone.
mod Admitted
mod AllHears
mod AllNotes
mod Bases
mod BesideWalk
mod Composes
mod Ends
mod Expiry
mod FewRows
mod Hears
mod HeldAddresses
mod InterfaceTables
mod Judges
mod LinkKeys
mod Receipt
mod RepeatsLaw
mod RowWalks
mod RowsRepeat
mod Spoken
mod SymmetricAddresses
mod Touched
mod TwoHops
mod Unchanged
mod Whole
mod Common
