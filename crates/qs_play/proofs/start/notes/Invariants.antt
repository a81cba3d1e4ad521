use Rattle.std.proofs.Common.{◌≡◌, replicate, None}
use Rattle.qs_play.proofs.start.notes.Given as goal

abbrev pub invariant-loop-seat : goal.invariant-loop-seat
invariant-loop-seat l = l.notes.items ≡ replicate l._seat None
