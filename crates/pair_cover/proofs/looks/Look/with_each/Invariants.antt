use Rattle.pair_cover.specs.Looks.{pair_spans, most_looks}
use Rattle.pair_cover.proofs.LookSteps.{AddsTo}
use Rattle.pair_cover.proofs.looks.Look.with_each.Given as goal

abbrev pub invariant-loop-b : goal.invariant-loop-b
invariant-loop-b l =
    AddsTo l.fn.self.tree.now l.fn.self.before.now (λ due looks b. pair_spans l.fn.self.tree.now due l.fn.self.limits most_looks l.fn.a b) l.fn.others l.fn.spans.items 0 l.b-index l.spans.items
