use Rattle.std.proofs.Common.{sym, ap, ◌∙◌}
use Rattle.sph_num.specs.Kernel.{kernel_u}
use Rattle.sph_num.proofs.Slopes.{slope_within_inner, slope_within_outer}
use Rattle.sph_num.proofs.length.Length.slope.Goals as goal

pub returns-then-r2-square-clause-value : goal.returns-then-r2-square-clause-value
returns-then-r2-square-clause-value c =
    let reach = rw c.square.ensures at c.if-r2-square.true in
    c.u.ensures.value ∙ ap kernel_u c.root.ensures.value ∙ sym (slope_within_inner c.args.r2 c.args.self.now reach)

pub returns-else-r2-square-clause-value : goal.returns-else-r2-square-clause-value
returns-else-r2-square-clause-value c =
    sym (slope_within_outer c.args.r2 c.args.self.now (rw c.square.ensures at c.if-r2-square.false))
