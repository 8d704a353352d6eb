pub mod Delays
pub mod Lending
pub mod Lockstep
pub mod Paired
pub mod Rings
pub mod Seen
pub mod Told
