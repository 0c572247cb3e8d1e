pub mod Tests
pub mod Finite
pub mod Range
pub mod Sized
pub mod Asked
