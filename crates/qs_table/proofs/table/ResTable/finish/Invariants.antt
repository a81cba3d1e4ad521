use Rattle.std.proofs.Common.{◌≡◌, ◌≤◌, ◌<◌, ◌+◌, ℕ, count_by, length, vec_capacity}
use Rattle.qs_table.specs.Notes.{frees_task}
use Rattle.qs_table.specs.inner.Plays.{seat_in}
use Rattle.qs_table.specs.inner.Tokens.{Sits}
use Rattle.qs_table.proofs.Finishes.{Releasing}
use Rattle.qs_table.proofs.table.ResTable.finish.Given as goal

abbrev pub invariant-loop-k : goal.invariant-loop-k
invariant-loop-k g l =
    Sits l.fn.self l.seat
    × Releasing l.fn.successors l.k (seat_in l.fn.seat.me.0) (seat_in l.seat.me.0) l.fn.ready.items l.ready.items
    × (l.k ≤ length l.fn.successors)
    × (l.seat.me.1 ≡ l.fn.seat.me.1)
    × (vec_capacity l.ready ≡ vec_capacity l.fn.ready)
    × (length l.ready.items ≤ length l.fn.ready.items + l.k)
    × ((t : ℕ) → 0 < l.k → count_by (frees_task t) (seat_in l.seat.me.0).notes ≤ 1)
