mod Order
pub mod Kept
