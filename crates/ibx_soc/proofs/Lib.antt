pub mod Bits
pub mod Delayed
pub mod Images
pub mod Sites
