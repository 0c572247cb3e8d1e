pub mod Page
pub mod Coefficients
