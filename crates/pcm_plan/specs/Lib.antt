pub mod Plans
pub mod Through
pub mod Fits
pub mod Laws
