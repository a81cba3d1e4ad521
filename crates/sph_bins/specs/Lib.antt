pub mod Bins
pub mod InBounds
pub mod Kick
pub mod Laws
