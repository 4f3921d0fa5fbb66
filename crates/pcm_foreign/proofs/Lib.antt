pub mod Judging
pub mod FilterLimits
pub mod SectionLimits
pub mod TableLimits
