use Rattle.std.proofs.Common.{◌∙◌, ap}
use Rattle.sph_num.specs.Kernel.{kernel_w}
use Rattle.sph_num.proofs.Parts.{density_part-from}
use Rattle.sph_num.proofs.length.Length.density_part.Goals as goal

pub returns-clause-value : goal.returns-clause-value
returns-clause-value c =
    let kernel = c.w.ensures.value ∙ ap kernel_w c.root.ensures.value in
    rw c.from.ensures at c.per_volume.ensures.value ∙ density_part-from c.args.mass c.args.r2 c.args.self.now c.w.result kernel
