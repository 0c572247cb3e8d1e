pub mod Values
pub mod Unpack
pub mod Operands
