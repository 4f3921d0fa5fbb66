pub mod Weights
pub mod Passing
pub mod Turned
pub mod Equalising
pub mod Fed
pub mod Resuming
