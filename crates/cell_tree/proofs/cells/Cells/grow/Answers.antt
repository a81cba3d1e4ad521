use Rattle.std.proofs.Common.{length, sym, ap, ◌∙◌, subst, arith}
use Rattle.std.proofs.lemmas.List.FromFn.{length-range_with_len}
use Rattle.cell_tree.specs.inner.Nodes.{cell_over, IsSound}
use Rattle.cell_tree.specs.Tree.{made_of, root_cube}
use Rattle.cell_tree.proofs.Members.{IsSound-root}
use Rattle.cell_tree.proofs.cells.Cells.grow.Goals as goal

pub grow-requires-clause-sound : goal.grow-requires-clause-sound
grow-requires-clause-sound c =
    let made = made_of c.args.points.now c.args.lengths.now c.args.leaf in
    subst (λ ms. IsSound made (cell_over root_cube ms)) (sym (c.deref_mut.ensures.value ∙ c.in_ok-order.ensures)) (IsSound-root made c.requires)

pub grow-requires-clause-short : goal.grow-requires-clause-short
grow-requires-clause-short c =
    let n = ap length (c.deref_mut.ensures.value ∙ c.in_ok-order.ensures) ∙ length-range_with_len 0 (length c.args.points.now) in
    omega (arith, c.requires.not_too_many)
