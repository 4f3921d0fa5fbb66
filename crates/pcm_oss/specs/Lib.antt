pub mod Fragments
pub mod Volumes
pub mod Replies
