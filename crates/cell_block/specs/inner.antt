-- Definitions between private functions: no public clause cites them.
pub mod Beginning
pub mod TaskLists
