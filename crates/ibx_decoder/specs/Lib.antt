pub mod Compressed
pub mod Instructions
pub mod Rows
pub mod Table
