pub mod CutLines
pub mod Spelling
pub mod Lines
pub mod Scripts
