pub mod Doing
pub mod Rules
pub mod WordPort
