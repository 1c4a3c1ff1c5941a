-- Lemmas for crates above, each file with the crates that cite it.
pub mod Refusals  -- tool
-- Lemmas of this crate alone.
mod Emulations
mod Ends
mod EventTexts
mod MakingLemmas
mod Names
mod Parts
mod PlainLines
mod Preparing
mod ProbeLines
mod Putting
mod ToldProbes
mod ToldRoutes
mod TraceFacts
mod TripLines
mod Common
