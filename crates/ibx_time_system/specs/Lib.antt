pub mod Cycles
pub mod Projection
pub mod Laws
