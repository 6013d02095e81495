pub mod Sum
pub mod Pieces
