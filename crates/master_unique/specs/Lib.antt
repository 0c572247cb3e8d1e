pub mod Both
pub mod Unique
