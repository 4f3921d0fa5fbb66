pub mod Places
pub mod Windows
pub mod Sums
pub mod Outputs
pub mod Copies
