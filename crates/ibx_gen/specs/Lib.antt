pub mod Draws
pub mod Words
pub mod Image
pub mod Instructions
