use Rattle.pair_cover.specs.Looks.{pair_spans, most_looks}
use Rattle.pair_cover.proofs.LookSteps.{AddsTwos}
use Rattle.pair_cover.proofs.looks.Look.each_two.Given as goal

abbrev pub invariant-loop-i : goal.invariant-loop-i
invariant-loop-i l =
    AddsTwos l.fn.self.tree.now l.fn.self.before.now (λ due two. pair_spans l.fn.self.tree.now due l.fn.self.limits most_looks two.0 two.1) l.fn.cells l.fn.spans.items l.i l.spans.items
