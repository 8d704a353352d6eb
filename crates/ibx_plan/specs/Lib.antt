pub mod Names
pub mod Text
pub mod Sites
pub mod Line
pub mod Changes
pub mod Plan
