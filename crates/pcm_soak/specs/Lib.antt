pub mod Draws
pub mod Events
pub mod Soak
pub mod Tallies
