pub mod Ticks
pub mod Pieces
pub mod Streams
pub mod Rows
pub mod Whole
pub mod Work
pub mod Momentum
pub mod Taken
