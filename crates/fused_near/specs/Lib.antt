pub mod Biased
