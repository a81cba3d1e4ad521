-- Which kind waits for each kind.
use Rattle.std.proofs.Common.{◌≡◌, true, refl}
use Rattle.std.proofs.lemmas.Bool.{false≢true}
use Rattle.sph_num.specs.declared.kind.Kind.{Kind}
use Rattle.sph_num.specs.declared.kind.Kind.TheVariants.{Drift, Density, Ghost, Force, Kick}
use Rattle.sph_num.specs.Kinds.{waits_for}

pub only_densities : (kind : Kind) → waits_for kind Drift ≡ true → kind ≡ Density
only_densities Density t = refl
only_densities _ t = absurd (false≢true t)

pub only_ghosts : (kind : Kind) → waits_for kind Density ≡ true → kind ≡ Ghost
only_ghosts Ghost t = refl
only_ghosts _ t = absurd (false≢true t)

pub only_forces : (kind : Kind) → waits_for kind Ghost ≡ true → kind ≡ Force
only_forces Force t = refl
only_forces _ t = absurd (false≢true t)

pub only_kicks : (kind : Kind) → waits_for kind Force ≡ true → kind ≡ Kick
only_kicks Kick t = refl
only_kicks _ t = absurd (false≢true t)

pub none_after_kicks : (kind : Kind) → waits_for kind Kick ≡ true → ⊥
none_after_kicks Drift t = false≢true t
none_after_kicks Density t = false≢true t
none_after_kicks Ghost t = false≢true t
none_after_kicks Force t = false≢true t
none_after_kicks Kick t = false≢true t
