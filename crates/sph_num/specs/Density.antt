-- The density: what each particle adds, and the sum over all of them.
use Rattle.std.specs.Prelude.{ℕ, ◌*◌, ◌/◌, ◌^◌, List, sum_by, if◌then◌else◌, nat_lt}
use Rattle.sph_num.specs.declared.particle.Particle.{Particle}
use Rattle.sph_num.specs.Kernel.{root_of, kernel_w, kernel_constant}
use Rattle.sph_num.specs.Space.{dist2}

-- what a mass at the square r2 of a distance within h adds to the density: mass times kernel over h³, rounded down
unfoldable pub density_part : ℕ → ℕ → ℕ → ℕ
density_part mass r2 h = (mass * kernel_constant * kernel_w (root_of r2 h) * 2 ^ 8) / (h * h * h)

-- the same at any distance: nothing from h on
abbrev pub density_within : ℕ → ℕ → ℕ → ℕ
density_within mass r2 h = if nat_lt r2 (h * h) then density_part mass r2 h else 0

-- the density at particle i: the sum of what each particle of the list adds, i itself included
abbrev pub density_of : (Particle → List ℕ) → List Particle → Particle → ℕ
density_of place list i = sum_by (λ j. density_within j.mass (dist2 (place i) (place j)) i.h) list
