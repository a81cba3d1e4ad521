pub mod Elements
pub mod Places
pub mod Sums
pub mod Counts
pub mod Ranges
pub mod Rising
pub mod Extremes
pub mod Words
