pub mod Memory
pub mod State
pub mod Fetch
pub mod Access
pub mod Effects
pub mod Step
pub mod Writes
pub mod Laws
