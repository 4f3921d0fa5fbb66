pub mod Channels
pub mod Blocks
pub mod Handovers
pub mod Resuming
