use Rattle.std.proofs.Common.{◌≡◌, ◌∙◌, None, ap}
use Rattle.qs_worker.specs.inner.Trials.{TrialView}
use Rattle.qs_worker.proofs.Trying.{refuses, takes}
use Rattle.qs_worker.proofs.trial.TaskTrialTrial.try_take.Goals as goal

pub invariant_of-self : goal.invariant_of-self
invariant_of-self g c =
    let i = c.self.invariant in
    let none : c.self.inside.taken ≡ None = ap (λ (v : TrialView _). v.taken) c.self.view_is ∙ c.requires.none in
    let w = c.if-not-try_one.ensures in
    record {
      same = i.same;
      seated = w.seat;
      trying = (refuses (g.W.Work.shape c.self.inside.table.now.plan) c.self.inside.start.value.view c.self.inside.seat.now.view c.self.inside.taken i.trying c.args.task c.try_one.new.seat.view none w.tried).0;
    }

pub returns-then-not-try_one-clause-refused : goal.returns-then-not-try_one-clause-refused
returns-then-not-try_one-clause-refused g c _ =
    let none : c.self.inside.taken ≡ None = ap (λ (v : TrialView _). v.taken) c.self.view_is ∙ c.requires.none in
    (none, (refuses (g.W.Work.shape c.self.inside.table.now.plan) c.self.inside.start.value.view c.self.inside.seat.now.view c.self.inside.taken c.self.invariant.trying c.args.task c.try_one.new.seat.view none c.if-not-try_one.ensures.tried).1)

pub invariant_of-self-2 : goal.invariant_of-self-2
invariant_of-self-2 g c =
    let i = c.self.invariant in
    let none : c.self.inside.taken ≡ None = ap (λ (v : TrialView _). v.taken) c.self.view_is ∙ c.requires.none in
    let w = c.if-not-try_one.ensures in
    record {
      same = i.same;
      seated = w.seat;
      trying = takes (g.W.Work.shape c.self.inside.table.now.plan) c.self.inside.start.value.view c.self.inside.seat.now.view c.self.inside.taken i.trying c.args.task c.try_one.new.seat.view none w.tried;
    }
