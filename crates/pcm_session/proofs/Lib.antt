pub mod Taken
pub mod Runs
pub mod Reading
pub mod Numbers
