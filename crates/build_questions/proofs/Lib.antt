pub mod Behind
pub mod Fours
