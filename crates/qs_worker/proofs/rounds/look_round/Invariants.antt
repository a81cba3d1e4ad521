use Rattle.std.proofs.Common.{◌≡◌, ◌≤◌, ℕ, None}
use Rattle.qs_queues.specs.Seats.{IsQueueSeatOf}
use Rattle.qs_worker.proofs.Looked.{Misses}
use Rattle.qs_worker.proofs.rounds.look_round.Given as goal

abbrev pub invariant-loop-k : goal.invariant-loop-k
invariant-loop-k g l =
    IsQueueSeatOf l.fn.queues l.seat
    × (l.k ≤ l.fn.queues.queues)
    × (g.T.Trial.taken l.trial ≡ None)
    × (g.T.Trial.limit l.trial ≡ g.T.Trial.limit l.fn.trial)
    × (g.T.Trial.origin l.trial ≡ g.T.Trial.origin l.fn.trial)
    × ((t : ℕ) → g.T.Trial.refused l.fn.trial t → g.T.Trial.refused l.trial t)
    × Misses (g.T.Trial.refused l.trial) l.fn.queues.queues l.fn.own l.k l.fn.seat.view l.seat.view
