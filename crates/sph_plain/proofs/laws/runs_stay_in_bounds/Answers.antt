use Rattle.sph_plain.proofs.Runs.{InBounds-before, before_next}
use Rattle.sph_plain.proofs.laws.runs_stay_in_bounds.Goals as goal

pub returns-clause-in_bounds : goal.returns-clause-in_bounds
returns-clause-in_bounds c = InBounds-before

pub returns-clause-follow : goal.returns-clause-follow
returns-clause-follow c = before_next
