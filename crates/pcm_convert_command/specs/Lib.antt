pub mod Written
pub mod Converting
