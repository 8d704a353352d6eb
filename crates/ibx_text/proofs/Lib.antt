mod Reading
pub mod Written
pub mod Tables
