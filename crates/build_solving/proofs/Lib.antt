pub mod Steps
pub mod SolvedColumns
