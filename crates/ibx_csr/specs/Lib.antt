pub mod Table
pub mod Bits
pub mod Kept
pub mod Values
pub mod Modes
pub mod Fields
pub mod Widths
