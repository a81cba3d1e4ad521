-- Definitions between private functions: no public clause cites them.
pub mod Face
pub mod FirstTasks
pub mod OneLeaf
pub mod Written
