pub mod Answered
pub mod Lookups
pub mod Runs
pub mod States
pub mod Written
pub mod Driven
pub mod Turned
