pub mod Columns
pub mod Input
pub mod StatesOneByOne
