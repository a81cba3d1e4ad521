pub mod Room
pub mod BinOf
pub mod Steps
pub mod Narrow
pub mod Vectors
pub mod Sound
