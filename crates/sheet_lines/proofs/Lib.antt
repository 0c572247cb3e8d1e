pub mod Lengths
pub mod Fits
