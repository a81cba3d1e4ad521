use Rattle.std.proofs.Common.{arith}
use Rattle.std.proofs.lemmas.Bool.{leb-true}
use Rattle.cell_block.proofs.Boxes.{beyond}
use Rattle.cell_block.proofs.extent.Extent.is_apart.Goals as goal

pub returns-clause-beyond : goal.returns-clause-beyond
returns-clause-beyond c = λ far p q on_self on_other.
    beyond p q c.from-x.result c.from-y.result c.from-z.result c.from-reach.result (omega (arith, on_self.h, on_other.h)) (leb-true _ _ far)
    (omega (arith, c.gap.ensures.keeps _ _ on_self.x on_other.x))
    (omega (arith, c.gap-2.ensures.keeps _ _ on_self.y on_other.y))
    (omega (arith, c.gap-3.ensures.keeps _ _ on_self.z on_other.z))
