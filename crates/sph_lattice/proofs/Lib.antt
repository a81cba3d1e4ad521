pub mod Numbered
pub mod Sparse
pub mod Written
