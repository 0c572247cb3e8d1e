pub mod Claims
pub mod Faults
pub mod Precedence
pub mod Facts
pub mod Numbers
