pub mod Added
pub mod Lanes
pub mod Pairs
pub mod Equalisers
pub mod Feeders
