-- Definitions between private functions, of this crate and of `qs_play`: no public clause cites them.
pub mod Held
