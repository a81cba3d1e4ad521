-- Definitions between private functions: no public clause cites them.
pub mod Sift
pub mod Stored
