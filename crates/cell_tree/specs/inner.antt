-- Definitions between private functions: no public clause cites them.
pub mod Nodes
pub mod Parts
pub mod Under
