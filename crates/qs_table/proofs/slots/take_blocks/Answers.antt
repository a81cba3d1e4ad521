use Rattle.std.proofs.Common.{ap, sym, ◌∙◌, slice_index_or, false, arith}
use lib.ListN.{get_elem?}
use Rattle.qs_table.proofs.Drained.{emptied_more, full_behind, one_longer, taken}
use Rattle.qs_table.proofs.slots.take_blocks.Goals as goal

pub loop-leaf-preserved : goal.loop-leaf-preserved
loop-leaf-preserved g c =
    let v = c.loop-leaf.invariant in
    let leaf = c.loop-leaf.leaf in
    let others = c.take.ensures.others in
    let pushed = one_longer _ _ _ c.push_block.ensures.pushed in (
      others.3 ∙ v.0,
      others.0 ∙ v.1,
      others.2 ∙ v.2,
      taken _ leaf _ _ _ (ap (λ ss. get_elem? ss leaf) (sym v.1) ∙ c.take.ensures.value) v.3 c.push_block.ensures.pushed,
      (let room = v.4 in omega arith),
      c.push_block.ensures.kept ∙ v.5,
      λ k l. ap (λ fs. slice_index_or fs k false) others.1 ∙ emptied_more _ leaf v.6 k l,
      λ k l m. ap (λ fs. slice_index_or fs k false) others.1 ∙ full_behind _ leaf k l ∙ v.7 k (omega arith) (let same = others.2 in omega arith),
    )
