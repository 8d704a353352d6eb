pub mod Reading
pub mod Searching
pub mod Overlaps
pub mod Laws
pub mod Puts
pub mod Rams
pub mod Counted
