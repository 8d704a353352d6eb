pub mod Marks
pub mod Leaks
pub mod Twins
pub mod Runs
pub mod Reasons
pub mod Laws
pub mod Packed
pub mod PackedCsrs
