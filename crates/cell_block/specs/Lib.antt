pub mod Scene
pub mod Extents
pub mod Content
pub mod Blocks
pub mod Reading
pub mod Tasks
pub mod Laws
pub mod inner
