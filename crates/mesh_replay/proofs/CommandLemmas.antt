pub mod Once
pub mod Refusing
pub mod Rules
pub mod Worked
