pub mod Limits
pub mod Floors
pub mod Fractions
pub mod Reciprocals
