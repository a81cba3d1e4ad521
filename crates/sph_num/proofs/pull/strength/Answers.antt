use Rattle.sph_num.proofs.Pulls.{strength-is}
use Rattle.sph_num.proofs.pull.strength.Goals as goal

pub returns-clause-value : goal.returns-clause-value
returns-clause-value c =
    rw (c.from.ensures, c.from-mass_term.ensures, c.from-2.ensures) (strength-is c.args.mass c.args.g c.requires.mass c.requires.ghost_term)
