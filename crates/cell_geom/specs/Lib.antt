pub use Rattle.sph_num.specs.Space
pub mod Cube
pub mod Gap
pub mod inner
