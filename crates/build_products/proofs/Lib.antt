pub mod Sums
pub mod Transposed
