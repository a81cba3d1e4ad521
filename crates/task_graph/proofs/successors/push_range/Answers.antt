use Rattle.std.proofs.Common.{◌≡◌, ◌-◌, ◌++◌, ◌∷◌, [], ap, ◌∙◌, arith}
use Rattle.std.specs.List.{range_with_len}
use Rattle.lists.proofs.Ranges.{append-range-push}
use Rattle.task_graph.proofs.successors.push_range.Goals as goal

pub loop-number-preserved : goal.loop-number-preserved
loop-number-preserved c = record {
  most = omega arith;
  items = c.in_ok-push.ensures.items ∙ ap (λ ks. ks ++ c.loop-number.number ∷ []) c.loop-number.invariant.items
      ∙ append-range-push c.args.ends.now.items c.args.from c.loop-number.number c.loop-number.auto.number;
}

pub returns : goal.returns
returns c =
    let e : c.loop-number.number - c.args.from ≡ c.args.to - c.args.from = omega arith in
    c.loop-number.invariant.items ∙ ap (λ n. c.args.ends.now.items ++ range_with_len c.args.from n) e
