use Rattle.std.proofs.Common.{◌∙◌}
use Rattle.qs_heap.proofs.Limits.{below_scanned}
use Rattle.qs_queues.proofs.held.look.Goals as goal

pub returns-in-Some-clause-right : goal.returns-in-Some-clause-right
returns-in-Some-clause-right g c room tasks right =
    let scan = c.scan.ensures in
    record { ordered = scan.heap; room_is = scan.room ∙ right.room_is; below = below_scanned tasks _ c.args.heap.now c.scan.new.self c.scan.result scan.some scan.none right.below }
