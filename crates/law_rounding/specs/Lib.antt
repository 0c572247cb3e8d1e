pub mod Sticky
pub mod Weight
pub mod Whole
