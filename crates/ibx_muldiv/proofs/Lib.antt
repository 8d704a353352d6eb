pub mod Cycles
pub mod Division
pub mod Fields
pub mod Products
pub mod Values
