pub mod Sound
pub mod Laws
pub mod Legal
pub mod Words
pub mod Widths
