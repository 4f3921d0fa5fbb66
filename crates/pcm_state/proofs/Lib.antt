pub mod Pieces
pub mod Rows
pub mod Spelled
pub mod Volumes
pub mod Known
