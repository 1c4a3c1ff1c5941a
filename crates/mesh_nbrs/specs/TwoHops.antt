pub mod TwoHops
