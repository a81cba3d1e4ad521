use Rattle.std.proofs.Common.{◌∷◌, Some, ap, ◌∙◌, sym, subst}
use Rattle.atomic_table.specs.Table.{rest}
use Rattle.qs_queues.specs.declared.view.QueueView.{QueueView}
use Rattle.qs_queues.specs.Rule.{IsRightHeap}
use Rattle.qs_queues.specs.inner.Plays.{Mine}
use Rattle.qs_queues.proofs.held.bring_home.Goals as goal

pub unlock-requires-clause-held : goal.unlock-requires-clause-held
unlock-requires-clause-held c =
    let e = c.exchange-empty.ensures in
    let view = ap (λ (m : Mine). m.0) e.3 in (
      c.requires.held.0,
      c.args.heap,
      ap (λ (v : QueueView). v.held) view ∙ c.requires.held.1,
      c.requires.held.2,
      ap (λ (m : Mine). m.1) e.3 ∙ ap (λ xs. (c.args.queue, Some c.args.heap) ∷ rest xs) c.requires.slot,
      subst (λ (v : QueueView). IsRightHeap v.room v.tasks c.args.heap) (sym view) c.requires.right,
    )
