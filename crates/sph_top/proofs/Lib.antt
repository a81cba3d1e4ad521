pub mod Headlines
pub mod Jobs
pub mod NamedKeys
pub mod Reported
pub mod Rest
pub mod Streams
pub mod Texts
