-- The law: the forces and ghosts of a list in bounds are low, so its momenta are narrow and the next list is in bounds.
use Rattle.sph_bins.proofs.Narrow.{force_at-le, ghost_at-le, sums_are_narrow_from}
use Rattle.sph_bins.proofs.Steps.{kicked_narrow_from, steps_keep_bounds_from}
use Rattle.sph_bins.proofs.laws.steps_keep_bounds.Goals as goal

pub returns-clause-narrow : goal.returns-clause-narrow
returns-clause-narrow c = sums_are_narrow_from (kicked_narrow_from force_at-le)

pub returns-clause-kept : goal.returns-clause-kept
returns-clause-kept c = steps_keep_bounds_from force_at-le ghost_at-le
