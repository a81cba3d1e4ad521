-- Definitions between private functions: no public clause cites them.
pub mod Gathered
pub mod Rooms
pub mod Taking
