pub mod WholePart
pub mod Scaled
pub mod Answer
