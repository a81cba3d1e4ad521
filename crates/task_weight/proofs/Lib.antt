pub mod GreatestPaths
pub mod Starts
pub mod WeightsWithin
