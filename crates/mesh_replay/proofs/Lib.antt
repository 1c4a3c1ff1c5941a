-- Lemmas of this crate alone.
mod CheckingLemmas
mod CommandLemmas
mod FramesLemmas
mod RelaysLemmas
mod RouterLemmas
mod SceneLemmas
mod TrafficLemmas
mod Common
