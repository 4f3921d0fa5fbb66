pub mod Conversions
pub mod Laws
pub mod Stands
