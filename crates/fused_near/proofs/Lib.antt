pub mod Sum
pub mod Convert
