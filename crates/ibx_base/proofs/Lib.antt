pub mod Gained
pub mod Rests
pub mod Found
