pub mod Parts
pub mod Found
pub mod Numbers
pub mod Options
pub mod Command
