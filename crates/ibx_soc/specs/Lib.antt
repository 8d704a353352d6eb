pub mod First
pub mod Cycles
pub mod Seen
pub mod Widths
