pub mod Appending
pub mod Blocks
pub mod Waves
