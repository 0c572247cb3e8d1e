pub mod Laws
pub mod Signs
pub mod Squares
pub mod Ring
