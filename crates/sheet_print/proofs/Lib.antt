pub mod Enough
pub mod Output
pub mod Printed
