use Rattle.sph_num.proofs.Reciprocals.{two_steps}
use Rattle.sph_num.proofs.pull.broken_part.Goals as goal

pub returns : goal.returns
returns c = two_steps c.args.rest c.args.divisor c.requires.rest c.requires.divisor
