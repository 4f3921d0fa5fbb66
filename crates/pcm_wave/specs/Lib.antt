pub mod Formats
pub mod Chunks
pub mod Waves
pub mod Laws
pub mod Walks
pub mod Headers
pub mod DataFiles
pub mod Pools
