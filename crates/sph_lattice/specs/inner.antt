-- Definitions between private functions: no public clause cites them.
pub mod Sites
