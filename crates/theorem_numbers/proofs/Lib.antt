pub mod Going
pub mod Judged
pub mod Pieces
