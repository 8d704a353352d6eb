pub mod Choices
pub mod Bodies
pub mod Decoded
pub mod Images
