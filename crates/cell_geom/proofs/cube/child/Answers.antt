use Rattle.cell_geom.proofs.Nesting.{CubeContains-child_of}
use Rattle.cell_geom.proofs.cube.child.Goals as goal

pub returns-clause-inside : goal.returns-clause-inside
returns-clause-inside c = CubeContains-child_of c.args.cube c.args.octant
