pub mod Exchange
pub mod Magnitudes
pub mod Pivots
