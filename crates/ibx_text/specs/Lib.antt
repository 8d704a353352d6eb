pub mod Number
pub mod Digits
