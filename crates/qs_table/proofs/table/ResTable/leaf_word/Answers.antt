use Rattle.std.proofs.Common.{length, ap, arith}
use Rattle.qs_table.specs.Seats.{TableView}
use Rattle.qs_table.proofs.Opened.{cells_of_lines}
use Rattle.qs_table.proofs.table.ResTable.leaf_word.Goals as goal

pub overflow_add-result : goal.overflow_add-result
overflow_add-result g c =
    let cells = cells_of_lines _ _ _ _ c.self.invariant.0 in
    let found = c.cells.ensures in
    let few = c.self.invariant.0.laws.few_cells in
    omega (arith, cells, found, few)

pub overflow_add-result-2 : goal.overflow_add-result-2
overflow_add-result-2 g c =
    let cells = cells_of_lines _ _ _ _ c.self.invariant.0 in
    let found = c.cells.ensures in
    let few = c.self.invariant.0.laws.few_cells in
    let fits = c.ranges.leaf.fits in
    omega (arith, cells, found, few, fits)

pub returns : goal.returns
returns g c =
    let cells = cells_of_lines _ _ _ _ c.self.invariant.0 in
    let found = c.cells.ensures in
    let same = ap (λ (t : TableView _). length (g.W.Work.shape t.plan).parents) c.self.view_is in
    omega (arith, cells, found, same)
