pub mod Lockstep
pub mod Pairs
pub mod Rings
pub mod Told
