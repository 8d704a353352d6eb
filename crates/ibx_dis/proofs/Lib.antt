pub mod Gains
pub mod Stands
pub mod Steps
