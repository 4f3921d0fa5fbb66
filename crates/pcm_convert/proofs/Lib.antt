pub mod Bodies
pub mod Reach
pub mod Blocks
pub mod Bytes
