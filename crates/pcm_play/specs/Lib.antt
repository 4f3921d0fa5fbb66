pub mod Channels
pub mod Telling
