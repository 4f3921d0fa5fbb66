pub mod Channels
pub mod Pieces
pub mod Telling
