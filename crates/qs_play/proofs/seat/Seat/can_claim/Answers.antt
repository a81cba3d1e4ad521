use Rattle.std.proofs.Common.{◌<◌, sym, subst, ◌∙◌, arith}
use borrow.Author.Tests.{ltb-true}
use Rattle.qs_core.proofs.Owned.{both_ways}
use Rattle.qs_play.proofs.seat.Seat.can_claim.Goals as goal
use Rattle.qs_play.proofs.seat.Seat.can_claim.Goals.{then-task-tasks, else-task-tasks}

pub returns-then-is_free : goal.returns-then-is_free
returns-then-is_free c = elim c.if-task-tasks.branch [
  | then-task-tasks w ↦
      both_ways c.owns_just.ensures
      (let is_task = subst (λ n. c.args.task < n) c.tasks.ensures w.if-task-tasks.true in
      let free = w.is_free.ensures.0 (sym w.value-is ∙ c.if-is_free.true) in (λ owns. record { is_task = is_task; owns = owns; free = free }, λ can. can.owns))
  | else-task-tasks w ↦ let t = ltb-true c.args.task c.tasks.result (sym w.value-is ∙ c.if-is_free.true) in absurd (omega (arith, t))
]
