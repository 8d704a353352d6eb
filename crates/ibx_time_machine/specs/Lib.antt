pub mod Core
pub mod Words
pub mod Shown
pub mod System
pub mod Whole
