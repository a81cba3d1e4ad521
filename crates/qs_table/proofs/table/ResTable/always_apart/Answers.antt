use Rattle.qs_table.proofs.Dealt.{always_apart}
use Rattle.qs_table.proofs.table.ResTable.always_apart.Goals as goal

pub returns : goal.returns
returns g c = always_apart _ _ _ _
