use Rattle.std.proofs.Common.{length, ap, arith}
use Rattle.qs_table.specs.Seats.{TableView}
use Rattle.qs_table.proofs.Opened.{cells_of_lines}
use Rattle.qs_table.proofs.table.ResTable.task_word.Goals as goal

pub overflow_add-result : goal.overflow_add-result
overflow_add-result g c =
    let cells = cells_of_lines _ _ _ _ c.self.invariant.0 in
    let found = c.cells.ensures in
    let few = c.self.invariant.0.laws.few_cells in
    omega (arith, cells, found, few)

pub overflow_add-result-2 : goal.overflow_add-result-2
overflow_add-result-2 g c =
    let laid = c.self.invariant.0 in
    let cells = cells_of_lines _ _ _ _ laid in
    let found = c.cells.ensures in
    let few = laid.laws.few_cells in
    let slots = c.slot_count.ensures in
    let leaves = laid.slots_are in
    let few_leaves = laid.laws.few_leaves in
    omega (arith, cells, found, few, slots, leaves, few_leaves)

pub overflow_add-result-3 : goal.overflow_add-result-3
overflow_add-result-3 g c =
    let laid = c.self.invariant.0 in
    let cells = cells_of_lines _ _ _ _ laid in
    let found = c.cells.ensures in
    let few = laid.laws.few_cells in
    let slots = c.slot_count.ensures in
    let leaves = laid.slots_are in
    let few_leaves = laid.laws.few_leaves in
    let fits = c.ranges.task.fits in
    omega (arith, cells, found, few, slots, leaves, few_leaves, fits)

pub returns : goal.returns
returns g c =
    let laid = c.self.invariant.0 in
    let cells = cells_of_lines _ _ _ _ laid in
    let found = c.cells.ensures in
    let slots = c.slot_count.ensures in
    let leaves = laid.slots_are in
    let same_cells = ap (λ (t : TableView _). length (g.W.Work.shape t.plan).parents) c.self.view_is in
    let same_leaves = ap (λ (t : TableView _). (g.W.Work.shape t.plan).leaves) c.self.view_is in
    omega (arith, cells, found, slots, leaves, same_cells, same_leaves)
