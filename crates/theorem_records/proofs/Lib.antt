pub mod Numbers
pub mod Records
pub mod States
