pub mod Methods
pub mod Outputs
pub mod Walks
pub mod LastFrames
pub mod Feeders
