use Rattle.cell_geom.proofs.Nesting.{cube_holds-child_of}
use Rattle.cell_geom.proofs.cube.octant.Goals as goal

pub returns-clause-held : goal.returns-clause-held
returns-clause-held c = cube_holds-child_of c.args.cube c.args.point c.requires.splits c.requires.held
