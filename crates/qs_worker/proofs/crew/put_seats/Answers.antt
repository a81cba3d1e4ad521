use Rattle.std.proofs.Common.{◌≡◌, ◌++◌, ◌∷◌, [], All, length, sym, ap, ◌∙◌, subst, arith}
use Rattle.std.proofs.lemmas.List.{length_push}
use Rattle.std.proofs.lemmas.List.Elements.{All-push}
use Rattle.qs_core.specs.Core.{empty_view}
use Rattle.qs_table.specs.Seats.{TokenView}
use Rattle.qs_queues.specs.Seats as queue
use Rattle.qs_worker.specs.Turns.{WorkerView}
use Rattle.qs_worker.proofs.Moving.{map_last, moved_back}
use Rattle.qs_worker.proofs.crew.put_seats.Goals as goal

pub loop-worker-preserved : goal.loop-worker-preserved
loop-worker-preserved g c =
    let v = c.loop-worker.invariant in
    let is = c.in-Some.ensures.items in
    let was : c.into_seats-seat.result.0 ≡ c.in-Some.worker.lock_seat = ap (λ (p : TokenView _ × queue.QueueTokenView). p.0) c.into_seats-seat.ensures.seats in
    let more = c.push_reserved.ensures.items ∙ ap (λ s. c.loop-worker.seats.items ++ s ∷ []) was in
    let longer = ap length more ∙ length_push _ _ in
    let less = ap length is ∙ length_push _ _ in
    let room = v.2 in
    let same = c.push_reserved.ensures.capacity in (
      moved_back _ _ _ _ _ _ v.0 (map_last (λ (w : WorkerView _). w.lock_seat) _ _ _ is) more,
      (λ rest. subst (All (λ (s : TokenView _). s.view.holds ≡ empty_view)) (sym c.push_reserved.ensures.items) (All-push (λ (s : TokenView _). s.view.holds ≡ empty_view) _ _ (v.1 rest) c.into_seats-seat.ensures.rests)),
      omega (arith, longer, less, room, same),
      same ∙ v.3,
    )
