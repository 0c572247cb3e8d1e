pub mod Pivots
pub mod Repeating
