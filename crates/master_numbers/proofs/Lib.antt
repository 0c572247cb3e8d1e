pub mod Signed
pub mod Horner
