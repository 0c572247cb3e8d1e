pub mod Cycles
pub mod Orbits
pub mod Pivots
pub mod Settled
pub mod Struck
