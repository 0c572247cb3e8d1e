pub mod Output
pub mod OutputFits
