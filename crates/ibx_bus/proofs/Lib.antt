pub mod Words
pub mod Ports
pub mod Times
pub mod Steps
pub mod Order
mod Examples
pub mod Kept
