mod Copied
mod Just
mod Owning
mod Played
