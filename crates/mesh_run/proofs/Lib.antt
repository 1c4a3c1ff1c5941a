mod Endings
mod Moments
mod TurnsLemmas
mod Common
