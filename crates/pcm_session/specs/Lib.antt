pub mod Taken
pub mod Steps
pub mod Beginnings
pub mod Runs
pub mod Events
pub mod Calls
pub mod Questions
pub mod States
