pub mod AxesLoop
