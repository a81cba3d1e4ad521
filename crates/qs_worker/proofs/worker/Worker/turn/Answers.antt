use Rattle.std.proofs.Common.{◌<◌, ℕ, All, reverse, refl, sym, ◌∙◌, subst}
use Rattle.qs_core.specs.Shape.{IsShape}
use Rattle.qs_table.specs.Seats.{IsSeatOf}
use Rattle.qs_queues.specs.Calls.{Noted}
use Rattle.qs_worker.specs.declared.turn.Turn.TheVariants.{Idle, Ran}
use Rattle.qs_worker.specs.declared.turn.Turn.TheVariants as answer
use Rattle.qs_worker.specs.Offers.{ArePushed}
use Rattle.qs_worker.specs.ReadyLists.{IsReadyList}
use Rattle.qs_worker.specs.Turns.{Turned, WorkerView, entry_in}
use Rattle.qs_worker.proofs.Equipped.{equipped, listed_at, room_at, spare}
use Rattle.qs_worker.proofs.Freed.{done_ready, kept_ready, ready_still}
use Rattle.qs_worker.proofs.Turning.{has_run, is_idle, is_over}
use Rattle.qs_worker.proofs.worker.Worker.turn.Given.{Over}
use Rattle.qs_worker.proofs.worker.Worker.turn.Goals.{After-do_claimed, After-look-found, After-push_ready, After-self}
use Rattle.qs_worker.proofs.worker.Worker.turn.Goals as goal

seat_of : (g : Over) (c : After-self g) → IsSeatOf c.args.table.now c.self.inside.seat
seat_of g c = subst (λ (v : WorkerView _). IsSeatOf c.args.table.now v.lock_seat) (sym c.self.view_is) c.requires.seat

laws : (g : Over) (c : After-self g) → IsShape (g.W.Work.shape c.args.table.now.plan)
laws g c = subst (λ p. IsShape (g.W.Work.shape p)) c.requires.work c.cells-cells.ensures.laws

ready : (g : Over) (c : After-self g) → IsReadyList (g.W.Work.shape c.args.table.now.plan) c.self.inside.seat.view.notes c.self.inside.ready.items
ready g c = listed_at g.W.Work.shape c.args.table.now _ _ _ _ _ _ _ c.self.invariant (seat_of g c)

pub push_ready-requires-clause-ready : goal.push_ready-requires-clause-ready
push_ready-requires-clause-ready g c =
    subst (λ (n : ℕ). All (λ (t : ℕ). t < n) c.self.inside.ready.items) (sym c.requires.tasks) (ready g (goal.at.push_ready-requires-clause-ready g c).After-self).are_tasks

pushed : (g : Over) (c : After-push_ready g)
    → Noted (ArePushed c.args.queues.now.room c.args.queues.now.queues c.self.inside.number (entry_in (g.W.Work.shape c.args.table.now.plan)) c.self.inside.ready.items c.push_ready.new.ready.items) c.self.inside.queue_seat.view c.push_ready.new.seat.view
pushed g c =
    subst (λ p. Noted (ArePushed c.args.queues.now.room c.args.queues.now.queues c.self.inside.number (entry_in (g.W.Work.shape p)) c.self.inside.ready.items c.push_ready.new.ready.items) c.self.inside.queue_seat.view c.push_ready.new.seat.view)
    c.requires.work c.push_ready.ensures.pushed

kept : (g : Over) (c : After-push_ready g) → IsReadyList (g.W.Work.shape c.args.table.now.plan) c.self.inside.seat.view.notes c.self.inside.ready.items
    → IsReadyList (g.W.Work.shape c.args.table.now.plan) c.self.inside.seat.view.notes c.push_ready.new.ready.items
kept g c list =
    let said = (pushed g c).said in
    kept_ready (g.W.Work.shape c.args.table.now.plan) _ _ _ (reverse said.gone) said.left_from_the_last list

looked : (g : Over) (c : After-look-found g) → IsReadyList (g.W.Work.shape c.args.table.now.plan) c.self.inside.seat.view.notes c.push_ready.new.ready.items
    → IsReadyList (g.W.Work.shape c.args.table.now.plan) c.look-found.new.seat.view.notes c.push_ready.new.ready.items
looked g c list =
    let grown = c.look-found.ensures.looked.trying.grown in
    ready_still (g.W.Work.shape c.args.table.now.plan) _ grown.further _ _ grown.is list

done : (g : Over) (c : After-do_claimed g) → IsShape (g.W.Work.shape c.args.table.now.plan) → IsReadyList (g.W.Work.shape c.args.table.now.plan) c.look-found.new.seat.view.notes c.push_ready.new.ready.items
    → IsReadyList (g.W.Work.shape c.args.table.now.plan) c.do_claimed.new.seat.view.notes c.do_claimed.new.ready.items
done g c laws list =
    let d = c.do_claimed.ensures.done in
    let took = c.look-found.ensures.looked.trying.some c.in-Some.task c.in-Some.is in
    done_ready (g.W.Work.shape c.args.table.now.plan) c.in-Some.task _ _ _ _ _ _ laws took.is_task d.quiet.further d.quiet.is d.notes d.releases d.freed c.do_claimed.ensures.once list

pub returns-then-left-eq0-clause-turned : goal.returns-then-left-eq0-clause-turned
returns-then-left-eq0-clause-turned g c =
    let at = goal.at.returns-then-left-eq0-clause-turned g c in
    subst (λ (b : WorkerView _). Turned (g.W.Work.shape c.args.table.now.plan) c.args.queues.now answer.Over b (record { number = c.self.inside.number; lock_seat = c.self.inside.seat; queue_seat = c.left.new.seat; ready = c.push_ready.new.ready.items })) c.self.view_is
    (is_over (g.W.Work.shape c.args.table.now.plan) c.args.queues.now c.self.inside.number c.self.inside.seat c.self.inside.queue_seat c.self.inside.ready.items _ _ _ c.left.result (pushed g at.After-push_ready) c.left.ensures.loaded
    c.left.new.seat refl c.if-left-eq0.true c.self.invariant.rests)

pub returns-then-left-eq0-clause-ready : goal.returns-then-left-eq0-clause-ready
returns-then-left-eq0-clause-ready g c =
    let at = goal.at.returns-then-left-eq0-clause-ready g c in
    kept g at.After-push_ready (ready g at.After-self)

pub invariant_of-self : goal.invariant_of-self
invariant_of-self g c =
    let at = goal.at.invariant_of-self g c in
    let i = c.self.invariant in
    let of = seat_of g at.After-self in
    equipped g.W.Work.shape c.args.table.now _ _ _ _ _ _ _ i of _ _ _ _ _ _ _ of i.rests i.first_empty i.second_empty refl refl c.push_ready.ensures.room (kept g at.After-push_ready (ready g at.After-self))

pub returns-in-None-clause-turned : goal.returns-in-None-clause-turned
returns-in-None-clause-turned g c =
    let at = goal.at.returns-in-None-clause-turned g c in
    subst (λ (b : WorkerView _). Turned (g.W.Work.shape c.args.table.now.plan) c.args.queues.now Idle b (record { number = c.self.inside.number; lock_seat = c.look-found.new.seat; queue_seat = c.look-found.new.queue_seat; ready = c.push_ready.new.ready.items })) c.self.view_is
    (is_idle (g.W.Work.shape c.args.table.now.plan) c.args.queues.now c.self.inside.number c.self.inside.seat c.self.inside.queue_seat c.self.inside.ready.items _ _ _ c.left.result (pushed g at.After-push_ready) c.left.ensures.loaded
    c.look-found.result c.look-found.new.seat.view c.look-found.new.queue_seat.view c.look-found.ensures.looked c.look-found.new.seat c.look-found.new.queue_seat refl refl c.in-None.is c.if-left-eq0.false)

pub returns-in-None-clause-ready : goal.returns-in-None-clause-ready
returns-in-None-clause-ready g c =
    let at = goal.at.returns-in-None-clause-ready g c in
    looked g at.After-look-found (kept g at.After-push_ready (ready g at.After-self))

pub invariant_of-self-in-None : goal.invariant_of-self-in-None
invariant_of-self-in-None g c =
    let at = goal.at.invariant_of-self-in-None g c in
    let i = c.self.invariant in
    equipped g.W.Work.shape c.args.table.now _ _ _ _ _ _ _ i (seat_of g at.After-self) _ _ _ _ _ _ _ c.look-found.ensures.seat (c.look-found.ensures.looked.trying.none c.in-None.is) i.first_empty i.second_empty refl refl
    c.push_ready.ensures.room (looked g at.After-look-found (kept g at.After-push_ready (ready g at.After-self)))

pub do_claimed-requires-clause-task : goal.do_claimed-requires-clause-task
do_claimed-requires-clause-task g c = (c.look-found.ensures.looked.trying.some c.in-Some.task c.in-Some.is).is_task

pub do_claimed-requires-clause-runs : goal.do_claimed-requires-clause-runs
do_claimed-requires-clause-runs g c = (c.look-found.ensures.looked.trying.some c.in-Some.task c.in-Some.is).holds

pub do_claimed-requires-clause-room : goal.do_claimed-requires-clause-room
do_claimed-requires-clause-room g c =
    let at = goal.at.do_claimed-requires-clause-room g c in
    room_at g.W.Work.shape c.args.table.now _ _ _ _ _ _ _ c.self.invariant (seat_of g at.After-self)

pub do_claimed-requires-clause-spare : goal.do_claimed-requires-clause-spare
do_claimed-requires-clause-spare g c =
    let at = goal.at.do_claimed-requires-clause-spare g c in
    let took = c.look-found.ensures.looked.trying.some c.in-Some.task c.in-Some.is in
    spare g.W.Work.shape c.args.table.now _ _ _ _ _ _ _ c.self.invariant (seat_of g at.After-self) _ _ c.in-Some.task _ (laws g at.After-self) (looked g at.After-look-found (kept g at.After-push_ready (ready g at.After-self))) took.is_task c.push_ready.ensures.room

pub returns-in-Some-clause-turned : goal.returns-in-Some-clause-turned
returns-in-Some-clause-turned g c =
    let at = goal.at.returns-in-Some-clause-turned g c in
    subst (λ (b : WorkerView _). Turned (g.W.Work.shape c.args.table.now.plan) c.args.queues.now (Ran c.in-Some.task) b (record { number = c.self.inside.number; lock_seat = c.do_claimed.new.seat; queue_seat = c.finish_one.new.seat; ready = c.do_claimed.new.ready.items })) c.self.view_is
    (has_run (g.W.Work.shape c.args.table.now.plan) c.args.queues.now c.self.inside.number c.self.inside.seat c.self.inside.queue_seat c.self.inside.ready.items _ _ _ c.left.result (pushed g at.After-push_ready) c.left.ensures.loaded
    c.look-found.result c.look-found.new.seat.view c.look-found.new.queue_seat.view c.look-found.ensures.looked c.in-Some.task c.do_claimed.new.seat c.finish_one.new.seat c.do_claimed.new.ready.items c.in-Some.is c.do_claimed.ensures.done
    c.finish_one.ensures.one c.if-left-eq0.false)

pub returns-in-Some-clause-ready : goal.returns-in-Some-clause-ready
returns-in-Some-clause-ready g c =
    let at = goal.at.returns-in-Some-clause-ready g c in
    done g at.After-do_claimed (laws g at.After-self) (looked g at.After-look-found (kept g at.After-push_ready (ready g at.After-self)))

pub invariant_of-self-in-Some : goal.invariant_of-self-in-Some
invariant_of-self-in-Some g c =
    let at = goal.at.invariant_of-self-in-Some g c in
    let i = c.self.invariant in
    let d = c.do_claimed.ensures in
    equipped g.W.Work.shape c.args.table.now _ _ _ _ _ _ _ i (seat_of g at.After-self) _ _ _ _ _ _ _ d.seat d.done.holds d.empty.0 d.empty.1 d.room.0 d.room.1 (d.spare ∙ c.push_ready.ensures.room) (done g at.After-do_claimed (laws g at.After-self) (looked g at.After-look-found (kept g at.After-push_ready (ready g at.After-self))))
