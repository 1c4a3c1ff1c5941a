pub mod Spoiled
pub mod Unspoiled
pub mod Witnesses
pub mod WorkedHello
pub mod WrongStates
