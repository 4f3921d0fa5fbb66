mod Walks
mod Loading
mod Bus
pub mod Alike
pub mod AlikeOutputs
pub mod Joining
pub mod Taken
pub mod AlikeParents
