pub mod TimeViews
pub mod Parts
pub mod Laws
pub mod Compared
pub mod Observers
