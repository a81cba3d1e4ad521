use Rattle.std.proofs.Common.{◌≡◌, replicate}
use Rattle.qs_core.specs.Core.{empty_view}
use Rattle.qs_play.proofs.start.seats.Given as goal

abbrev pub invariant-loop-seat : goal.invariant-loop-seat
invariant-loop-seat l = l.seats.items ≡ replicate l._seat empty_view
