-- Laws of the judge of sheets. Assumes nothing.
pub mod Decimal
pub mod Exact
pub mod Words
pub mod Steps
pub mod Items
pub mod Short
pub mod Fuel
pub mod Limits
pub mod Texts
pub mod Beside
pub mod LimitItems
pub mod Whole
pub mod Found
pub mod Places
