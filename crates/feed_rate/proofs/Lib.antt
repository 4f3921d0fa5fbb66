pub mod Methods
pub mod Walks
pub mod Feeds
pub mod Histories
