pub mod Covering
pub mod Looks
pub mod inner
