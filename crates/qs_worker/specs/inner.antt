-- Definitions between private functions, and of what a worker keeps: no public clause cites them.
pub mod Rooms
pub mod Leaves
pub mod Claimed
pub mod Pushing
pub mod Trials
pub mod Idling
pub mod Sharing
