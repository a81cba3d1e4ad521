pub mod Entries
pub mod Heap
pub mod Moves
pub mod Scans
pub mod inner
