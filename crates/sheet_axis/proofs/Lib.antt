pub mod Joins
pub mod Parts
