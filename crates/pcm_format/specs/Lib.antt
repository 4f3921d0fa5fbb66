pub mod Formats
pub mod Layouts
pub mod Samples
pub mod Frames
