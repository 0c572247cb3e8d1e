pub mod Elimination
pub mod Factors
