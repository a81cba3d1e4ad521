use Rattle.std.proofs.Common.{arith}
use Rattle.sph_num.proofs.Spline.{inner_not_negative, kernel_w_inner, kernel_w_outer}
use Rattle.sph_num.proofs.kernel.kernel_at.Goals as goal

pub overflow_sub-result : goal.overflow_sub-result
overflow_sub-result c = omega (arith, inner_not_negative c.args.s c.if-s-le512.true)

pub returns-then-s-le512 : goal.returns-then-s-le512
returns-then-s-le512 c = omega (arith, kernel_w_inner c.args.s c.if-s-le512.true)

pub returns-else-s-le512 : goal.returns-else-s-le512
returns-else-s-le512 c = omega (arith, kernel_w_outer c.args.s c.if-s-le512.false)
