pub mod AllAxes
