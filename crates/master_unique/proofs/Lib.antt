pub mod Energy
pub mod Zero
pub mod Good
pub mod Difference
pub mod Unique
