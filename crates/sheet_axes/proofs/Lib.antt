pub mod Numbers
pub mod Buffers
pub mod Sizes
pub mod Columns
pub mod Axes
