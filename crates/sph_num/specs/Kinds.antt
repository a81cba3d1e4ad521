-- The kinds of task, and which wait for which.
use Rattle.std.specs.Prelude.{Bool, true, false}
use Rattle.sph_num.specs.declared.kind.Kind.{Kind}
use Rattle.sph_num.specs.declared.kind.Kind.TheVariants.{Drift, Density, Ghost, Force, Kick}

-- whether two kinds are one
abbrev pub same_kind : Kind → Kind → Bool
same_kind Drift Drift = true
same_kind Density Density = true
same_kind Ghost Ghost = true
same_kind Force Force = true
same_kind Kick Kick = true
same_kind _ _ = false

-- tasks of the one kind wait for tasks of the other: densities for drifts, ghosts for densities, forces for ghosts, kicks for forces
abbrev pub waits_for : Kind → Kind → Bool
waits_for Density Drift = true
waits_for Ghost Density = true
waits_for Force Ghost = true
waits_for Kick Force = true
waits_for _ _ = false
