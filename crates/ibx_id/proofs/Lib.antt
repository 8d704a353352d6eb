pub mod Held
pub mod Stays
