pub mod AllNodes
pub mod Back
pub mod Points
