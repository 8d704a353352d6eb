mod Examples
pub mod Aligned
pub mod Written
