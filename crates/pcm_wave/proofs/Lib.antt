pub mod Bodies
pub mod Words
pub mod Walks
pub mod ReadBack
pub mod Limits
pub mod Formats
pub mod Captures
