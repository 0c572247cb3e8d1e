pub mod Sums
pub mod Tables
pub mod Segment
pub mod Floats
pub mod Exact
