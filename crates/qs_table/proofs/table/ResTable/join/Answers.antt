use Rattle.std.proofs.Common.{◌∙◌, sym, ap, arith}
use Rattle.qs_table.specs.Seats.{TableView}
use Rattle.qs_table.proofs.Dealt.{joins}
use Rattle.qs_table.proofs.table.ResTable.join.Goals as goal

pub join_seat-requires : goal.join_seat-requires
join_seat-requires g c =
    let laid = c.self.invariant.0 in
    let id = sym (ap (λ (t : TableView _). t.id) c.self.view_is) in (
      c.requires.same.0 ∙ id,
      c.requires.same.1 ∙ id,
      c.requires.slots,
      (let many = laid.words_are in omega arith),
      joins _ _ _ _ _ _ _ _,
    )
