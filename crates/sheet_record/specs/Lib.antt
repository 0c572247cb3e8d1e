pub mod Held
pub mod Reached
pub mod ReadOf
