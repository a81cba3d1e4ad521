use Rattle.std.proofs.Common.{◌≡◌, [], All, length}
use Rattle.qs_queues.specs.Seats.{QueueTokenView}
use Rattle.qs_queues.specs.Views.{fresh_view}
use Rattle.qs_queues.proofs.queues.Queues.new.Given as goal

abbrev pub invariant-loop-seat : goal.invariant-loop-seat
invariant-loop-seat l =
    (l.table ≡ l.initial.table)
    × (l.queues ≡ l.fn.queues)
    × (l.first.table_id ≡ l.table.shared.table_id)
    × (l.first.me ≡ (fresh_view l.fn.room l.fn.tasks, []))
    × (length l.tokens.items ≡ l._seat)
    × All (λ (s : QueueTokenView). s ≡ record { id = l.table.shared.table_id; view = fresh_view l.fn.room l.fn.tasks }) l.tokens.items
