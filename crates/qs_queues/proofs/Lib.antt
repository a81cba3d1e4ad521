pub mod Histories
pub mod Kept
pub mod Opened
pub mod Holding
pub mod Said
