pub mod Runs
mod Examples
mod FeatureExamples
mod FaultExamples
mod CacheExamples
mod BusExamples
pub mod Controls
pub mod Times
pub mod Fences
pub mod Views
pub mod Timed
pub mod Registers
pub mod SameViews
pub mod Cycles
pub mod Follows
pub mod Seen
pub mod Chains
pub mod Values
pub mod Words
pub mod States
pub mod Stories
pub mod Positions
pub mod Places
pub mod Written
pub mod Settled
pub mod Told
pub mod Halts
pub mod Walks
pub mod Logs
pub mod Halves
pub mod Answered
