pub mod Texts
pub mod ReadBack
pub mod Examples
