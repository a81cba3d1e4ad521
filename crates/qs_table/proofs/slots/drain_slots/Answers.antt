use Rattle.std.proofs.Common.{length, ap, ◌∙◌, arith}
use Rattle.std.proofs.lemmas.List.{length_push}
use Rattle.qs_table.proofs.Drained.{drained, one_longer}
use Rattle.qs_table.proofs.slots.drain_slots.Goals as goal

pub loop-slot-preserved : goal.loop-slot-preserved
loop-slot-preserved g c =
    let v = c.loop-slot.invariant in
    let popped = ap length c.in-Some.ensures.items ∙ length_push _ _ in
    let pushed = one_longer c.in-Some.slot _ _ c.push_block.ensures.pushed in (
      drained c.args.slots.items c.loop-slot.slots.items c.pop.new.self.items c.in-Some.slot _ _ v.0 c.in-Some.ensures.items c.push_block.ensures.pushed,
      (let room = v.1 in let same = c.push_block.ensures.kept in omega arith),
    )
