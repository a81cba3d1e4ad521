use Rattle.std.proofs.Common.{refl}
use Rattle.sph_num.specs.Totals.{component}
use Rattle.cell_kern.proofs.Forces.{difference_exact}
use Rattle.cell_kern.proofs.force.take_force.Goals as goal

pub returns-then-due : goal.returns-then-due
returns-then-due c =
    let sum = c.args.sum.now in
    let force = c.args.force in
    let small = c.requires.room c.if-due.true in
    let x = difference_exact (component sum 0) (component force 0) (small 0) (c.requires.small 0) in
    let y = difference_exact (component sum 1) (component force 1) (small 1) (c.requires.small 1) in
    let z = difference_exact (component sum 2) (component force 2) (small 2) (c.requires.small 2) in
    let due = c.if-due.true in
    rw (x, y, z, due) refl
