pub mod Blocks
mod Sums
mod Vectors
