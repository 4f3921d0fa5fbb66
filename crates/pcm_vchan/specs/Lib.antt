pub mod Slots
pub mod Captures
pub mod Starts
pub mod Openings
pub mod Parents
pub mod Racks
pub mod Lending
pub mod Clones
