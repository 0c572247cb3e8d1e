pub mod Sizes
pub mod Lists
pub mod Forms
pub mod Follow
