use Rattle.std.proofs.Common.{◌≡◌, ◌||◌, Bool, true, List, sym, ap, ◌∙◌, rules}
use Rattle.std.proofs.lemmas.Bool.{or_left, or_right}
use Rattle.cell_geom.specs.Gap.{gap2_of}
use Rattle.cell_geom.specs.declared.cube.Cube.{Cube}
use Rattle.cell_tree.specs.Due.{has_due, AreDueBefore}
use Rattle.cell_tree.specs.Tree.{cell_at}
use Rattle.pair_cover.specs.Looks.{reach_of_two}
use Rattle.pair_cover.proofs.LookSteps.{drops_from_gap}
use Rattle.pair_cover.proofs.looks.Look.drops.Goals as goal
use Rattle.pair_cover.proofs.looks.Look.drops.Goals.{After-gap2, else-not-has_due-via-then-not-has_due+else-not-has_due-2, else-not-has_due-via-else-not-has_due}

some_due : (c : After-gap2) (due : List Bool) → AreDueBefore c.args.self.now.tree.now due c.args.self.now.before.now
    → (has_due c.args.self.now.tree.now due c.args.a || has_due c.args.self.now.tree.now due c.args.b) ≡ true
some_due c due counts =
    let made = c.args.self.now.tree.now in
    elim c.else-not-has_due.branch [
      | else-not-has_due-via-then-not-has_due+else-not-has_due-2 w ↦
          or_right (has_due made due c.args.a) (has_due made due c.args.b) (sym (w.has_due-then-not-has_due.ensures due counts) ∙ w.if-not-has_due-2.false)
      | else-not-has_due-via-else-not-has_due w ↦
          or_left (has_due made due c.args.a) (has_due made due c.args.b) (sym (c.has_due.ensures due counts) ∙ w.if-not-has_due.false)
    ]

pub returns : goal.returns
returns c =
    let look = c.args.self.now in
    let made = look.tree.now in
    let reach : c.from-reach.result ≡ reach_of_two made c.args.a c.args.b = search rules in
    let gap : c.gap2.result ≡ gap2_of (cell_at made c.args.a).cube (cell_at made c.args.b).cube look.limits.slack =
    c.gap2.ensures.value
    ∙ ap (λ (q : Cube). gap2_of q c.cube-2.result look.limits.slack) c.cube.ensures.value
    ∙ ap (λ (q : Cube). gap2_of (cell_at made c.args.a).cube q look.limits.slack) c.cube-2.ensures.value in
    λ due counts. drops_from_gap made due look.limits c.args.a c.args.b c.from-reach.result c.gap2.result (some_due c due counts) reach gap
