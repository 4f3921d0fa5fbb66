-- A pointer with what it owns, and the heap at a call, as the machine has them.
pub mod Pieces
