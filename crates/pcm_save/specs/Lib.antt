pub mod Parts
pub mod Joined
pub mod States
pub mod Playing
pub mod Recording
pub mod Mapping
pub mod Outputs
pub mod Parents
