pub mod LaneRows
pub mod Width
