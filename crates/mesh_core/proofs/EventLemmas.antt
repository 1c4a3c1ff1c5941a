pub mod Derivations
pub mod Endings
pub mod Hearing
pub mod Refusals
pub mod Ticking
pub mod Wholes
