pub mod Lattice
pub mod LatticeText
pub mod inner
