pub mod Coded
pub mod Lanes
pub mod Stores
pub mod Loads
pub mod Memories
