use Rattle.std.proofs.Common.{sym}
use Rattle.sph_num.proofs.Lengths.{length_low, root_of_share}
use Rattle.sph_num.proofs.length.Length.root.Goals as goal

pub returns-clause-value : goal.returns-clause-value
returns-clause-value c =
    let h = c.args.self.now in
    let within = rw c.share.ensures.value at c.square_root.ensures.within in
    let above = rw c.share.ensures.value at c.square_root.ensures.above in
    sym (root_of_share c.args.r2 h c.square_root.result (length_low c.args.r2 h c.requires) within above)
