use Rattle.std.proofs.Common.{◌≡◌, ◌≤◌, length}
use Rattle.qs_table.specs.inner.Plays.{seat_in}
use Rattle.qs_table.specs.inner.Tokens.{Sits}
use Rattle.qs_table.proofs.Given.{Raising}
use Rattle.qs_table.proofs.table.ResTable.take.Given as goal

abbrev pub invariant-loop-k : goal.invariant-loop-k
invariant-loop-k g l = Sits l.fn.self l.seat × Raising (seat_in l.fn.seat.me.0) l.fn.cell l.k (seat_in l.seat.me.0) × (l.k ≤ length l.line) × (l.seat.me.1 ≡ l.fn.seat.me.1)
