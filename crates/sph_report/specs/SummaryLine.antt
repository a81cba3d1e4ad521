-- The line of a summary: the sums over the particles at a tick.
use Rattle.std.specs.Prelude.{ℕ, ℤ, List, [], ◌∷◌, ◌++◌, codes, decimal, sum_by}
use Rattle.std.specs.Fmt.{signed_decimal}
use Rattle.sph_num.specs.declared.particle.Particle.{Particle}
use Rattle.sph_num.specs.Totals.{component, total_by}

-- the sum of the densities
abbrev pub total_density : List Particle → ℕ
total_density list = sum_by (λ p. p.rho) list

-- the sum of the momenta at the tick, on an axis
abbrev pub total_momentum : ℕ → List Particle → ℤ
total_momentum axis list = total_by (λ p. component p.q axis) list

-- the tick and the sums, with the line's end; a sum below 0 has a leading `-`
unfoldable pub summary_line : ℕ → List Particle → List ℕ
summary_line t list =
    codes "tick " ++ decimal t
    ++ codes " rho " ++ decimal (total_density list)
    ++ codes " qx " ++ signed_decimal (total_momentum 0 list)
    ++ codes " qy " ++ signed_decimal (total_momentum 1 list)
    ++ codes " qz " ++ signed_decimal (total_momentum 2 list)
    ++ 10 ∷ []
