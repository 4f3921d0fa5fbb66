pub mod Channels
pub mod Starting
pub mod Racks
pub mod Counting
pub mod Cloning
mod Openings
