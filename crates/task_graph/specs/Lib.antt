pub mod Graph
pub mod Meeting
pub mod Tasks
pub mod inner
