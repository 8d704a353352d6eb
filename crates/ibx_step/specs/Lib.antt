pub mod Machines
pub mod Preparing
pub mod Outcomes
