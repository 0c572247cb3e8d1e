pub mod AxisPart
pub mod Independent
pub mod Served
pub mod Previews
