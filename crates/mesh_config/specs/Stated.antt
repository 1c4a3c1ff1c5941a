pub mod Router
pub mod Rules
pub mod Scenario
pub mod Steps
pub mod Tables
pub mod Times
