pub mod Spelling
pub mod Ranges
pub mod Streams
pub mod Whole
