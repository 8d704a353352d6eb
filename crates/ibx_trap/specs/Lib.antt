pub mod Bits
pub mod Interrupts
pub mod Traps
