pub mod Held
pub mod Calls
pub mod Sessions
pub mod Told
