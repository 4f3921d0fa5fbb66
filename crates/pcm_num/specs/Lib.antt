pub mod Limit
pub mod Floor
pub mod Fraction
pub mod Reciprocal
