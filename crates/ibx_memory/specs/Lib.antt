pub mod Coded
pub mod Words
