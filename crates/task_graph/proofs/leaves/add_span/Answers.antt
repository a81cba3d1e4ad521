use Rattle.std.proofs.Common.{arith}
use Rattle.std.proofs.lemmas.Result.{on_ok_weaker}
use Rattle.task_graph.proofs.SpanLists.{AddsSpan-one, AddsSpan-two}
use Rattle.task_graph.proofs.leaves.add_span.Goals as goal

pub add_below-requires-clause-ordered : goal.add_below-requires-clause-ordered
add_below-requires-clause-ordered c = (c.requires.counts.1.in_cell _ _ _ c.leaves_below.ensures.below).ordered

pub add_below-requires-clause-within : goal.add_below-requires-clause-within
add_below-requires-clause-within c =
    let within = (c.requires.counts.1.in_cell _ _ _ c.leaves_below.ensures.below).within in
    omega (arith, c.requires.counts.2)

pub add_below-requires-in-Some-clause-ordered : goal.add_below-requires-in-Some-clause-ordered
add_below-requires-in-Some-clause-ordered c = (c.requires.counts.1.in_cell _ _ _ c.leaves_below-in-Some.ensures.below).ordered

pub add_below-requires-in-Some-clause-within : goal.add_below-requires-in-Some-clause-within
add_below-requires-in-Some-clause-within c =
    let within = (c.requires.counts.1.in_cell _ _ _ c.leaves_below-in-Some.ensures.below).within in
    omega (arith, c.requires.counts.2, c.add_below.auto.above)

pub returns-in-Some : goal.returns-in-Some
returns-in-Some c = λ cells are.
    on_ok_weaker c.add_below-in-Some.result
    (AddsSpan-two c.args.tree.now cells c.args.span c.in-Some.second _ _ _ _ c.args.number c.args.above.now c.add_below.new.above c.add_below-in-Some.new.above
    c.requires.span c.in-Some.is (are.in_cell _ _ _ c.leaves_below.ensures.below) c.in_ok-add_below.ensures (are.in_cell _ _ _ c.leaves_below-in-Some.ensures.below))
    c.add_below-in-Some.ensures

pub returns-in-None : goal.returns-in-None
returns-in-None c = λ cells are.
    AddsSpan-one c.args.tree.now cells c.args.span _ _ c.args.number c.args.above.now c.add_below.new.above c.in-None.is (are.in_cell _ _ _ c.leaves_below.ensures.below) c.in_ok-add_below.ensures
