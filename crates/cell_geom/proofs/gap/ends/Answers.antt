use Rattle.std.proofs.Common.{◌-◌, get_or, arith}
use Rattle.std.proofs.lemmas.Nat.{pow_pos}
use Rattle.cell_geom.proofs.Ends.{last-lt}
use Rattle.cell_geom.proofs.gap.ends.Goals as goal

pub overflow_add-result : goal.overflow_add-result
overflow_add-result c =
    let last = last-lt c.args.cube.level (get_or c.args.cube.at c.args.axis 0) c.requires.cube.level (c.requires.cube.within c.args.axis c.requires.axis) in
    omega arith

pub returns : goal.returns
returns c =
    let last = last-lt c.args.cube.level (get_or c.args.cube.at c.args.axis 0) c.requires.cube.level (c.requires.cube.within c.args.axis c.requires.axis) in
    let positive = pow_pos (20 - c.args.cube.level) in
    record { first_is = omega arith; last_is = omega arith; in_box = omega arith }
