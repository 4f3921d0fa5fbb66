pub mod Places
pub mod Points
