pub mod Ways
pub mod Paths
pub mod Resumes
pub mod Telling
