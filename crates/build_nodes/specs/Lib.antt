pub mod NodeLists
pub mod Steps
