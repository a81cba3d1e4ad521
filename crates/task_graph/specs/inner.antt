-- Definitions between private functions: no public clause cites them.
pub mod Joined
pub mod LeafLists
pub mod Parts
