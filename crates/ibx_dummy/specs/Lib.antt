pub mod Dummies
pub mod Laws
