pub mod Evaluation
pub mod Masters
