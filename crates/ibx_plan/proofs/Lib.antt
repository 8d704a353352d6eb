pub mod Lines
pub mod Narrow
pub mod Cut
pub mod Halving
pub mod OneLine
pub mod Flips
pub mod Entries
