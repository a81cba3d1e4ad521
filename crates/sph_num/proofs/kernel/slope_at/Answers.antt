use Rattle.sph_num.proofs.Slopes.{kernel_u_inner, kernel_u_outer}
use Rattle.std.proofs.Common.{sym}
use Rattle.sph_num.proofs.kernel.slope_at.Goals as goal

pub returns-then-s-le512 : goal.returns-then-s-le512
returns-then-s-le512 c = sym (kernel_u_inner c.args.s c.if-s-le512.true)

pub returns-else-s-le512 : goal.returns-else-s-le512
returns-else-s-le512 c = sym (kernel_u_outer c.args.s c.if-s-le512.false)
