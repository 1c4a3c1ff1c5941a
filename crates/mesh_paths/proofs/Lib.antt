-- Lemmas for crates above, each file with the crates that cite it.
pub mod Admitted  -- probe, settled
pub mod Existing  -- routes
pub mod LinksStay  -- probe
pub mod Order  -- data, laws, routes
pub mod Rows  -- data, probe, routes
pub mod Scenarios  -- data, emulate, laws, probe, settled, texts
pub mod SearchLaw  -- data, probe, routes
pub mod Sets  -- routes
pub mod SettledDecisions  -- laws, probe, routes, settled
pub mod SettledLaw  -- emulate, settled
pub mod SettledNeighbours  -- data, probe, settled
pub mod ShortLists  -- data, laws, probe, routes
pub mod TreeLaw  -- routes
-- Lemmas of this crate alone.
mod Found
mod FrontierLaw
mod Index
mod JoinedParts
mod NewOffers
mod RadioLaw
mod ReachedLaw
mod SettledArcs
mod SettledHops
mod SettledLeast
mod SettledRelays
mod SettledWalks
mod Unique
mod Common
