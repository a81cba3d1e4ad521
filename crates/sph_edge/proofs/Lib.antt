pub mod Pieces
pub mod Supplies
