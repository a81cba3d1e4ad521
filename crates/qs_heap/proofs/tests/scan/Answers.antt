use Rattle.std.proofs.Common.{◌^◌}
use Rattle.qs_heap.proofs.Limits.{below_scanned}
use Rattle.qs_heap.proofs.tests.scan.Goals as goal

pub returns-clause-below : goal.returns-clause-below
returns-clause-below c =
    let scan = c.scan.ensures in
    below_scanned (2 ^ 32) _ c.args.heap.now c.scan.new.self c.scan.result scan.some scan.none c.requires
