pub mod Fits
pub mod Through
pub mod Gains
pub mod Bits
