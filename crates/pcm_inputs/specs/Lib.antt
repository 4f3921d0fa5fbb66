pub mod Commands
pub mod Faults
pub mod Outside
pub mod Parts
pub mod Reads
