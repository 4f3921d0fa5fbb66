pub mod Captures
pub mod Accepted
