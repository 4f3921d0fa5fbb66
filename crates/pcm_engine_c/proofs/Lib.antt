-- What C holds, as the machine has it.
pub mod Readiness
pub mod Slots
pub mod Asking
pub mod Cloning
pub mod Loading
