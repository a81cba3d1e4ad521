use Rattle.std.proofs.Common.{take}
use Rattle.cell_block.specs.Extents.{AreWithin}
use Rattle.cell_block.proofs.extent.Extent.of.Given as goal

abbrev pub invariant-loop-spot : goal.invariant-loop-spot
invariant-loop-spot l = AreWithin l.extent (take l.spot-index l.spots)
