-- A scene of two leaves on the two sides of the periodic face, of which the first alone has a due member, for the tests.
use Rattle.std.specs.Prelude.{ℕ, false, ℤ, List, [], ◌∷◌, Some, None, pos}
use Rattle.sph_num.specs.declared.kind.Kind.TheVariants.{Density, Ghost, Force, Kick}
use Rattle.sph_num.specs.declared.particle.Bounds.{Bounds}
use Rattle.sph_num.specs.declared.particle.Params.{Params}
use Rattle.sph_num.specs.declared.particle.Particle.{Particle}
use Rattle.sph_num.specs.Totals.{zero_vector}
use Rattle.cell_block.specs.declared.scene.Scene.{Scene}
use Rattle.cell_block.specs.declared.scene.TaskLine.{TaskLine}
use Rattle.cell_block.specs.Scene.{RangeSpan, leaf_line, span_line}

abbrev pub params : Params
params = record { ticks = 2; every = 2; bin_min = 0; bin_max = 1; sound = 65536; shift = 22; accuracy = 1200000; leaf = 16; pairs = 4096; slack = 0 }

abbrev pub bounds : Bounds
bounds = record { count = 2; mass = (1024, 1024); h = (1024, 1024) }

-- a particle at rest, kicked at tick 0
abbrev pub resting_at : ℕ → ℕ → ℕ → List ℤ → ℕ → Particle
resting_at x rho g f bin = record { mass = 1024; h = 1024; x0 = x ∷ 0 ∷ 0 ∷ []; t0 = 0; p = zero_vector; q = zero_vector; f = f; rho = rho; g = g; bin = bin }

-- the due one below the face, and the one above it that waits
abbrev pub due_one : Particle
due_one = resting_at 1048320 0 0 zero_vector 0

abbrev pub waiting_one : Particle
waiting_one = resting_at 256 54685204480 1286 (pos 659298496512 ∷ pos 0 ∷ pos 0 ∷ []) 1

-- the span of the first leaf, and that of both
abbrev pub own_span : RangeSpan
own_span = record { first = (0, 1); second = None }

abbrev pub both_span : RangeSpan
both_span = record { first = (0, 1); second = Some (1, 2) }

abbrev pub six_lines : List TaskLine
six_lines = span_line Density own_span ∷ span_line Density both_span ∷ leaf_line Ghost 0 ∷ span_line Force own_span ∷ span_line Force both_span ∷ leaf_line Kick 0 ∷ []

abbrev pub across_face : Scene
across_face = record { tick = 1; params = params; bounds = bounds; start = due_one ∷ waiting_one ∷ []; leaves = (0 ∷ []) ∷ (1 ∷ []) ∷ []; tasks = six_lines; drift = false }
