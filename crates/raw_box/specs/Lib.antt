-- What a pointer owns that the heap gave out.
pub mod Heap
