use Rattle.cell_tree.specs.Tree.{made_of}
use Rattle.cell_tree.proofs.Partition.{IsPartition-from_CanBeMade}
use Rattle.cell_tree.proofs.tree.Tree.build.Goals as goal

pub returns-clause-partition : goal.returns-clause-partition
returns-clause-partition c = IsPartition-from_CanBeMade (made_of c.args.points.now c.args.hs.now c.args.leaf) c.requires
