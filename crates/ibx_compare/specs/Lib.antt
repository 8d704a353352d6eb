pub mod Drives
pub mod TimeTwins
pub mod Twins
pub mod Verdicts
