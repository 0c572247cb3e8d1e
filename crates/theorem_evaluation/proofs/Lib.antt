pub mod Derivatives
pub mod Evaluation
pub mod Masters
