pub mod Running
pub mod Soaking
