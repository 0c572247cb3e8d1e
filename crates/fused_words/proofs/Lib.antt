pub mod Carry
pub mod Shift
pub mod Leading
