pub mod Fields
pub mod Laws
pub mod Reads
pub mod Snapshot
pub mod inner
