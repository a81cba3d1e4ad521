use Rattle.std.proofs.Common.{sym, ap, ◌∙◌, subst}
use Rattle.qs_core.specs.Shape.{Shape, IsShape, task_at}
use Rattle.qs_table.specs.Tries.{TriedTask}
use Rattle.qs_table.proofs.TaskTries.{Trying, busy_first, busy_second, can_first, can_second, got_both, got_one, may_give_first, tried_both, tried_first}
use Rattle.qs_table.proofs.table.ResTable.try_task.Given.{Over}
use Rattle.qs_table.proofs.table.ResTable.try_task.Goals.{After-cells_of-first}
use Rattle.qs_table.proofs.table.ResTable.try_task.Goals as goal

trying : (g : Over) (c : After-cells_of-first g) → Trying (g.W.Work.shape c.args.self.now.plan) c.args.task c.cells_of-first.result.0 c.cells_of-first.result.1 c.args.seat.now.view
trying g c =
    let same = ap g.W.Work.shape c.requires.work in
    let cells = c.cells_of-first.ensures in
    record {
      laws = subst IsShape same c.cells-cells.ensures.laws;
      within = c.requires.task;
      first_is = ap (λ r. r.0) cells ∙ ap (λ (s : Shape). (task_at s c.args.task).first) same;
      second_is = sym (ap (λ (s : Shape). (task_at s c.args.task).second) same) ∙ sym (ap (λ r. r.1) cells);
      none = c.requires.idle.owns_none;
      free = record { none_out = c.shows_none_out.ensures; none_runs = c.requires.idle.runs_none };
    }

pub try_cell-answer-requires-clause-can : goal.try_cell-answer-requires-clause-can
try_cell-answer-requires-clause-can g c = can_first _ _ _ _ _ (trying g (goal.at.try_cell-answer-requires-clause-can g c).After-cells_of-first)

pub returns-in-Busy-clause-tried : goal.returns-in-Busy-clause-tried
returns-in-Busy-clause-tried g c =
    let t = trying g (goal.at.returns-in-Busy-clause-tried g c).After-cells_of-first in
    subst (λ r. TriedTask (g.W.Work.shape c.args.self.now.plan) c.args.task c.args.seat.now.view r c.try_cell-answer.new.seat.view) (sym c.in-Busy.is)
    (busy_first _ _ _ _ _ t _ _ _ c.in-Busy.ensures.tried)

pub returns-in-Busy-clause-locks : goal.returns-in-Busy-clause-locks
returns-in-Busy-clause-locks g c = tried_first _ _ _ _ _ (trying g (goal.at.returns-in-Busy-clause-locks g c).After-cells_of-first) c.try_cell-answer.new.seat.view c.in-Busy.ensures.one_lock

pub returns-in_default-clause-tried : goal.returns-in_default-clause-tried
returns-in_default-clause-tried g c = got_one _ _ _ _ _ (trying g (goal.at.returns-in_default-clause-tried g c).After-cells_of-first) _ c.in-Got.ensures.tried c.in_default.is

pub returns-in_default-clause-locks : goal.returns-in_default-clause-locks
returns-in_default-clause-locks g c = tried_first _ _ _ _ _ (trying g (goal.at.returns-in_default-clause-locks g c).After-cells_of-first) c.try_cell-answer.new.seat.view c.in-Got.ensures.one_lock

pub try_cell-answer-requires-2-clause-can : goal.try_cell-answer-requires-2-clause-can
try_cell-answer-requires-2-clause-can g c = can_second _ _ _ _ _ (trying g (goal.at.try_cell-answer-requires-2-clause-can g c).After-cells_of-first) _ c.in-Got.ensures.tried _ c.in-Some.is

pub give_cell-requires-clause-can : goal.give_cell-requires-clause-can
give_cell-requires-clause-can g c = may_give_first _ _ _ _ _ (trying g (goal.at.give_cell-requires-clause-can g c).After-cells_of-first) _ c.in-Got.ensures.tried _ c.in-Some.is _ _ _ c.in-Busy-answer.ensures.tried

pub returns-in-Busy-answer-clause-tried : goal.returns-in-Busy-answer-clause-tried
returns-in-Busy-answer-clause-tried g c =
    let t = trying g (goal.at.returns-in-Busy-answer-clause-tried g c).After-cells_of-first in
    subst (λ r. TriedTask (g.W.Work.shape c.args.self.now.plan) c.args.task c.args.seat.now.view r c.give_cell.new.seat.view) (sym c.in-Busy-answer.is)
    (busy_second _ _ _ _ _ t _ c.in-Got.ensures.tried _ c.in-Some.is _ _ _ _ c.in-Busy-answer.ensures.tried c.give_cell.ensures.gave)

pub returns-in-Busy-answer-clause-locks : goal.returns-in-Busy-answer-clause-locks
returns-in-Busy-answer-clause-locks g c =
    let t = trying g (goal.at.returns-in-Busy-answer-clause-locks g c).After-cells_of-first in
    tried_both _ _ _ _ _ t _ c.in-Got.ensures.tried _ c.in-Some.is c.give_cell.new.seat.view c.in-Got.ensures.one_lock (c.give_cell.ensures.gave.no_lock ∙ c.in-Busy-answer.ensures.one_lock)

pub returns-in-Got-answer-clause-tried : goal.returns-in-Got-answer-clause-tried
returns-in-Got-answer-clause-tried g c =
    let t = trying g (goal.at.returns-in-Got-answer-clause-tried g c).After-cells_of-first in
    subst (λ r. TriedTask (g.W.Work.shape c.args.self.now.plan) c.args.task c.args.seat.now.view r c.try_cell-answer-2.new.seat.view) (sym c.in-Got-answer.is)
    (got_both _ _ _ _ _ t _ c.in-Got.ensures.tried _ c.in-Some.is _ c.in-Got-answer.ensures.tried)

pub returns-in-Got-answer-clause-locks : goal.returns-in-Got-answer-clause-locks
returns-in-Got-answer-clause-locks g c =
    let t = trying g (goal.at.returns-in-Got-answer-clause-locks g c).After-cells_of-first in
    tried_both _ _ _ _ _ t _ c.in-Got.ensures.tried _ c.in-Some.is c.try_cell-answer-2.new.seat.view c.in-Got.ensures.one_lock c.in-Got-answer.ensures.one_lock
