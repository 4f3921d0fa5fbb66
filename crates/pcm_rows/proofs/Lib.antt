pub mod Computing
pub mod Straight
pub mod Unbroken
