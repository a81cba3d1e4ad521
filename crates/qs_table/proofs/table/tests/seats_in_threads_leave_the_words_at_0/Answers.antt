use Rattle.std.proofs.lemmas.List.Elements.{All-append, All-drop, All-take}
use Rattle.qs_table.specs.inner.Tokens.{IsEmptySeat}
use Rattle.qs_table.proofs.EmptySeats.{all_idle}
use Rattle.qs_table.proofs.table.tests.seats_in_threads_leave_the_words_at_0.Goals as goal

pub close-closed-requires-clause-each : goal.close-closed-requires-clause-each
close-closed-requires-clause-each g c =
    let table = c.in_ok-table.table in
    all_idle table _
    (All-take (IsEmptySeat table) _ _ (All-append (IsEmptySeat table) _ _ c.try_in_threads.ensures (All-drop (IsEmptySeat table) _ _ c.in_ok-table.ensures.seats.1)))
