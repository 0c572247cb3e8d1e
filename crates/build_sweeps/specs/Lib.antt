pub mod Nodes
pub mod OfAxis
