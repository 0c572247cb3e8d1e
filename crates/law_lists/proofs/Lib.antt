pub mod Lists
pub mod Filling
pub mod Places
pub mod PartedList
pub mod Lent
