use Rattle.std.proofs.Common.{◌∙◌, sym, ap, arith}
use Rattle.qs_table.specs.Seats.{TableView}
use Rattle.qs_table.proofs.Dealt.{splits}
use Rattle.qs_table.proofs.table.ResTable.split.Goals as goal

pub split_seat-requires : goal.split_seat-requires
split_seat-requires g c =
    let laid = c.self.invariant.0 in (
      c.requires ∙ sym (ap (λ (t : TableView _). t.id) c.self.view_is),
      (let many = laid.words_are in omega arith),
      splits _ _ _ _ _ _,
    )
