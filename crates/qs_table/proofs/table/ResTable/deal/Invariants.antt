use Rattle.std.proofs.Common.{◌≡◌, ◌+◌, ◌≤◌, [], length, vec_capacity, All}
use Rattle.qs_table.specs.Seats.{IsNewSeat}
use Rattle.qs_table.proofs.Gathered.{undealt}
use Rattle.qs_table.proofs.table.ResTable.deal.Given as goal

-- the seats that aren't dealt stand in one bundle, the others have their tokens
abbrev pub invariant-loop-dealt : goal.invariant-loop-dealt
invariant-loop-dealt g l =
    (l.first.table_id ≡ l.fn.self.id)
    × (l.first.me ≡ (undealt l.fn.self.plan l._dealt l.fn.seats, []))
    × (length l.tokens.items + 1 ≡ l._dealt)
    × (l._dealt ≤ l.fn.seats)
    × (l.fn.seats ≤ vec_capacity l.tokens)
    × All (λ s. IsNewSeat l.fn.self s) l.tokens.items
