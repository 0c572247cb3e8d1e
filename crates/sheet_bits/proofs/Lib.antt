pub mod Writing
pub mod Hex
