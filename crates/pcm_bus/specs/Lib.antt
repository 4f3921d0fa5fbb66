pub mod Slots
pub mod Blocks
pub mod Handovers
pub mod Buses
pub mod Resumes
