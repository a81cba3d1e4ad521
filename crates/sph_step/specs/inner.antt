-- Definitions between private functions: no public clause cites them.
pub mod Fresh
pub mod Graphs
pub mod Put
pub mod Shares
pub mod Told
