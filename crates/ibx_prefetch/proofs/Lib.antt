pub mod Requests
pub mod Queue
pub mod Order
pub mod Drops
