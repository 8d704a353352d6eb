pub mod Faults
pub mod Fields
pub mod Filling
pub mod Image
pub mod Ram
pub mod Search
