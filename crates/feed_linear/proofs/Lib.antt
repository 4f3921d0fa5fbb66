pub mod Blends
pub mod Sides
