pub mod Devices
pub mod Filters
pub mod Sections
pub mod Tables
pub mod Requests
pub mod Answers
