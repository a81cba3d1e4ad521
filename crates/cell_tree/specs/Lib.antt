pub use Rattle.cell_geom.specs.Cube
pub use Rattle.sph_num.specs.Ranges
pub use Rattle.sph_num.specs.Space
pub mod Due
pub mod Laws
pub mod Spans
pub mod Tree
pub mod inner
