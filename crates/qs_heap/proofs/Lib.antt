pub mod Limits
mod Edits
mod Orders
mod Sifts
