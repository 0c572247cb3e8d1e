pub mod AxisIs
pub mod Sizes
