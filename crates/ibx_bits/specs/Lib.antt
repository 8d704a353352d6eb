pub mod Bytes
pub mod Platform
