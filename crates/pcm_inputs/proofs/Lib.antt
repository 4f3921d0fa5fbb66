pub mod Parts
pub mod Fronts
pub mod Refusing
pub mod Judgements
pub mod Loading
pub mod Ordering
pub mod Texts
