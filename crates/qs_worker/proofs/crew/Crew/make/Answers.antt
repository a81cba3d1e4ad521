use Rattle.std.proofs.Common.{◌≡◌, ◌≤◌, ◌∷◌, [], ◌++◌, List, All, Some, length, reverse, refl, sym, ap, ◌∙◌, subst, arith, rules}
use Rattle.std.proofs.lemmas.List.{length_push, reverse-append}
use Rattle.qs_core.specs.Core.{empty_view}
use Rattle.qs_table.specs.Seats.{TokenView}
use Rattle.qs_table.proofs.Gathered.{all_before, popped}
use Rattle.qs_worker.specs.Turns.{WorkerView}
use Rattle.qs_worker.proofs.Making.{AreMade, all_back, crew_made, made_planned, none_made, one_made, shared_in}
use Rattle.qs_worker.proofs.crew.Crew.make.Goals as goal

pub loop-seat-init : goal.loop-seat-init
loop-seat-init g c =
    let none = c.in-Ok.ensures.items in
    let count = ap length none in (
      subst (λ (ws : List (WorkerView _)). AreMade c.args.seats.items c.args.queue_seats.items c.args.seats.items c.args.queue_seats.items (reverse ws)) (sym none) (none_made _ _),
      c.requires.plan,
      c.requires.rest,
      c.requires.as_many,
      omega (arith, count),
      search rules,
      refl,
    )

pub loop-seat-preserved : goal.loop-seat-preserved
loop-seat-preserved g c =
    let v = c.loop-seat.invariant in
    let is = c.in-Some.ensures.items in
    let is' = popped _ _ _ _ c.pop-in-Some.ensures.items c.unwrap-queue_seat.ensures in
    let worker : WorkerView _ = record { number = c.len-number.result; lock_seat = c.in-Some.seat; queue_seat = c.unwrap-queue_seat.result; ready = [] } in
    let more = c.push_reserved.ensures.items ∙ ap (λ w. c.loop-seat.workers.items ++ w ∷ []) c.in-Ok-make_with.ensures.made in
    let longer = ap length more ∙ length_push _ _ in
    let less = ap length is ∙ length_push _ _ in
    let less' = ap length is' ∙ length_push _ _ in
    let many = v.3 in
    let count = v.4 in (
      subst (AreMade c.args.seats.items c.args.queue_seats.items c.pop.new.self.items c.pop-in-Some.new.self.items) (sym (ap reverse more ∙ reverse-append c.loop-seat.workers.items (worker ∷ []))) (one_made _ _ _ _ _ _ _ worker v.0 is is' (search rules) refl),
      all_before (λ (s : TokenView _). s.plan ≡ Some (g.W.Work.plan c.args.work.now)) _ _ (subst (All (λ (s : TokenView _). s.plan ≡ Some (g.W.Work.plan c.args.work.now))) is v.1),
      all_before (λ (s : TokenView _). s.view.holds ≡ empty_view) _ _ (subst (All (λ (s : TokenView _). s.view.holds ≡ empty_view)) is v.2),
      omega (arith, less, less', many),
      omega (arith, longer, less, count),
      subst (λ n. length c.args.seats.items ≤ n) (sym c.push_reserved.ensures.capacity) v.5,
      c.pop.ensures.capacity ∙ v.6,
    )

pub returns-in-Err-clause-no_crew : goal.returns-in-Err-clause-no_crew
returns-in-Err-clause-no_crew g c =
    all_back _ _ _ _ _ c.loop-seat.workers.items _ _ _ c.loop-seat.invariant.0 c.in-Some.ensures.items (c.push_reserved-in-Err.ensures.items ∙ ap (λ s. c.pop.new.self.items ++ s ∷ []) c.in-Err.ensures.no_worker.0) c.put_seats.ensures.seats

pub share_out-requires-clause-plan : goal.share_out-requires-clause-plan
share_out-requires-clause-plan g c =
    let none : c.loop-seat.seats.items ≡ [] = search rules in
    subst (All (λ (w : WorkerView _). w.lock_seat.plan ≡ Some (g.W.Work.plan c.args.work.now))) (sym (c.as_mut_slice.ensures.value ∙ c.reverse.ensures.items))
    (made_planned _ _ _ _ _ c.loop-seat.invariant.0 none (g.W.Work.plan c.args.work.now) c.requires.plan)

pub returns-clause-made : goal.returns-clause-made
returns-clause-made g c =
    let v = c.loop-seat.invariant in
    let none : c.loop-seat.seats.items ≡ [] = search rules in
    crew_made _ _ _ (shared_in _ _ _ _ _ _ c.as_mut_slice.ensures.value c.as_mut_slice.ensures.len c.share_out.ensures) _ _ _ _ (subst (AreMade c.args.seats.items c.args.queue_seats.items c.loop-seat.seats.items c.loop-seat.queue_seats.items) (sym c.reverse.ensures.items) v.0) none v.3
