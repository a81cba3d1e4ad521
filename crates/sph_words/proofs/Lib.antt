mod Cuts
mod Handed
mod Matches
mod NotHanded
mod NumbersRead
mod Walked
