pub mod Bytes
pub mod Causes
pub mod Growing
pub mod Memory
pub mod Whole
