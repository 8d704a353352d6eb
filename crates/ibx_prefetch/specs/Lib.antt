pub mod Buffer
pub mod Parcels
