pub mod Courses
pub mod Words
pub mod Buffer
pub mod Port
pub mod Histories
pub mod Held
