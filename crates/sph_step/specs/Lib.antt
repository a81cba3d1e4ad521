pub mod Stage
pub mod Made
pub mod inner
