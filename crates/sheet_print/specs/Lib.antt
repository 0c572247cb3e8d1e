pub mod Printing
pub mod LongEnough
