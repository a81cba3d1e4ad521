use Rattle.std.proofs.Common.{inl, inr, ◌∙◌, arith}
use Rattle.qs_worker.proofs.Stopping.{falls, one_worked}
use Rattle.qs_worker.proofs.worker.Worker.work.Goals as goal

pub loop-left-preserved : goal.loop-left-preserved
loop-left-preserved g c =
    let v = c.loop-left.invariant in
    let t = c.turn-answer.ensures in (
      t.seat,
      t.queue_seat,
      t.turned.number ∙ v.2,
      one_worked _ _ c.turn-answer.result c.loop-left.left _ _ _ _ v.3 t.turned c.loop-left-test.true c.idle_turns_left-left.ensures,
      inr t.ready,
    )

pub loop-left-smaller : goal.loop-left-smaller
loop-left-smaller g c = falls _ _ c.turn-answer.result _ _ c.loop-left.left _ c.turn-answer.ensures.turned c.loop-left-test.true c.idle_turns_left-left.ensures

-- a worker that stopped took a turn at least
pub returns-clause-ready : goal.returns-clause-ready
returns-clause-ready g c = elim c.loop-left.invariant.4 [
  | inl some ↦ let none = c.loop-left-test.false in absurd (omega (arith, some, none))
  | inr list ↦ list
]
