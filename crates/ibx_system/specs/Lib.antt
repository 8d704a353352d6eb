pub mod Core
pub mod System
pub mod Flips
pub mod Runs
