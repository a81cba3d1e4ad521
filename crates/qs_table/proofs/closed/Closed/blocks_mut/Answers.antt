use Rattle.std.proofs.Common.{length, refl, ap, ◌∙◌}
use Rattle.std.specs.List.{refill}
use Rattle.qs_table.specs.Blocks.{ClosedView}
use Rattle.qs_table.proofs.closed.Closed.blocks_mut.Goals as goal

pub returns : goal.returns
returns g c = (
  (
    refl,
    λ w.
        ap (λ n. record { shape = g.W.Work.shape c.self.inside.table.value.plan; words = c.self.inside.words.items; blocks = refill n c.self.inside.blocks.items w }) c.self.inside.blocks.ok.0
        ∙ ap (λ (v : ClosedView _). record v { blocks = refill (length v.blocks) v.blocks w }) c.self.view_is,
  ),
  record { value = c.as_mut_slice.ensures.value ∙ ap (λ (v : ClosedView _). v.blocks) c.self.view_is; writes_back = tt },
)
