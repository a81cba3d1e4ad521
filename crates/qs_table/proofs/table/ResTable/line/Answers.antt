use Rattle.std.proofs.Common.{◌<◌, ◌∙◌, [], length, map, get_or, All, ap, sym, subst, arith}
use Rattle.std.specs.List.{range_with_len}
use Rattle.qs_core.specs.Shape.{Shape, IsShape, ancestors}
use Rattle.qs_core.proofs.Ancestors.{ancestors_below}
use Rattle.qs_table.specs.Seats.{TableView}
use Rattle.qs_table.proofs.Opened.{cells_of_lines}
use Rattle.qs_table.proofs.Upward.{line_is}
use Rattle.qs_table.proofs.table.ResTable.line.Goals as goal

pub above-requires : goal.above-requires
above-requires g c =
    let laid = c.self.invariant.0 in
    let many = cells_of_lines _ _ _ _ laid in
    let same = ap (λ (t : TableView _). length (g.W.Work.shape t.plan).parents) c.self.view_is in
    let cell = c.requires in
    omega (arith, many, same, cell)

pub returns-clause-line : goal.returns-clause-line
returns-clause-line g c =
    let plan = ap (λ (t : TableView _). g.W.Work.shape t.plan) c.self.view_is in
    c.above.ensures
    ∙ ap (λ ls. get_or ls c.args.cell []) (c.self.invariant.0.lines_are ∙ ap (λ (s : Shape). map (ancestors s) (range_with_len 0 (length s.parents))) plan)
    ∙ line_is _ c.args.cell _ c.requires

pub returns-clause-cells : goal.returns-clause-cells
returns-clause-cells g c =
    let laws = subst IsShape (ap (λ (t : TableView _). g.W.Work.shape t.plan) c.self.view_is) c.self.invariant.0.laws in
    subst (All (λ above. above < length (g.W.Work.shape c.args.self.now.plan).parents)) (sym (returns-clause-line g c)) (ancestors_below _ laws c.args.cell)
