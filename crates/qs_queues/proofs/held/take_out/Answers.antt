use Rattle.std.proofs.Common.{◌∷◌, List, Some, sym, ap, ◌∙◌}
use Rattle.atomic_table.specs.Table.{rest}
use Rattle.qs_queues.proofs.held.take_out.Goals as goal

pub exchange-requires : goal.exchange-requires
exchange-requires c =
    let is = c.requires.held.1 in (c.requires.same, (Some c.requires.held.0, is ∙ ap (λ (xs : List _). (c.args.queue, Some c.requires.held.0) ∷ rest xs) (sym is)))
