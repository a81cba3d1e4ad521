-- Definitions between private functions, and of the public type's view over its private fields: no public clause cites them.
pub mod Held
pub mod Stored
