pub mod NodeNumbers
