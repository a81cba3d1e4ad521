-- Definitions between private functions: no public clause cites them.
pub mod Judged
pub mod Meets
pub mod Row
pub mod Rows
