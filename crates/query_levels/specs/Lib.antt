pub mod Levels
pub mod Lent
