-- The scene of the tests, at tick 1: a light particle that is due and a heavy one that isn't.
use Rattle.std.proofs.Common.{◌≡◌, ℕ, zero, suc, ◌+◌, ◌^◌, ◌<◌, ◌≤◌, Bool, false, List, [], ◌∷◌, filter, length, refl, sym, ap, ◌∙◌, arith}
use Rattle.std.specs.Prelude.{pos, negsuc, unsigned_abs, slice_index_or, None}
use Rattle.std.specs.List.{All, range_with_len}
use Rattle.std.proofs.lemmas.List.Elements.{All-cons, All-nil}
use Rattle.lists.proofs.Elements.{All-three}
use Rattle.sph_num.specs.declared.kind.Kind.TheVariants.{Drift}
use Rattle.sph_num.specs.declared.particle.Bounds.{Bounds}
use Rattle.sph_num.specs.declared.particle.Params.{Params}
use Rattle.sph_num.specs.declared.particle.Particle.{Particle}
use Rattle.sph_num.specs.Ranges.{AreBoundsInRange, AreParamsInRange}
use Rattle.sph_num.specs.Space.{IsPlace, box_side}
use Rattle.sph_num.specs.Totals.{component, zero_vector}
use Rattle.sph_bins.specs.InBounds.{InBounds, IsAt, IsWithin}
use Rattle.cell_block.specs.declared.rows.BlockRows.{BlockRows}
use Rattle.cell_block.specs.declared.scene.Scene.{Scene}
use Rattle.cell_block.specs.declared.scene.TaskLine.{TaskLine}
use Rattle.cell_block.specs.Blocks.{Agrees}
use Rattle.cell_block.specs.Reading.{tasks_of}
use Rattle.cell_block.specs.Scene.{IsGoodScene, touches}
use Rattle.cell_kick.specs.inner.OneLeaf.{one_leaf_lines}
use Rattle.cell_kick.proofs.OneLeaf.{IsGoodScene-one_leaf}

abbrev pub params : Params
params = record { ticks = 2; every = 2; bin_min = 0; bin_max = 1; sound = 65536; shift = 22; accuracy = 1200000; leaf = 16; pairs = 4096; slack = 0 }

abbrev pub bounds : Bounds
bounds = record { count = 2; mass = (1024, 4096); h = (1024, 1024) }

abbrev pub light : Particle
light = record {
  mass = 1024;
  h = 1024;
  x0 = 1512 ∷ 0 ∷ 0 ∷ [];
  t0 = 0;
  p = pos 1211960844288 ∷ pos 0 ∷ pos 0 ∷ [];
  q = zero_vector;
  f = pos 1211960844288 ∷ pos 0 ∷ pos 0 ∷ [];
  rho = 87496327168;
  g = 804;
  bin = 0;
}

abbrev pub heavy : Particle
heavy = record {
  mass = 4096;
  h = 1024;
  x0 = 1000 ∷ 0 ∷ 0 ∷ [];
  t0 = 0;
  p = zero_vector;
  q = pos 2423921688576 ∷ pos 0 ∷ pos 0 ∷ [];
  f = negsuc 1211960844287 ∷ pos 0 ∷ pos 0 ∷ [];
  rho = 185929695232;
  g = 378;
  bin = 1;
}

-- what holds of two elements
pub All-two : {X : Type 0} (P : X → Type 0) (x y : X) → P x → P y → All P (x ∷ y ∷ [])
All-two P x y p q = All-cons P x (y ∷ []) p (All-cons P y [] q (All-nil P))

-- a momentum on the x axis with room, and a place there
pub on_x : (x rest : ℕ) → x + rest < 2 ^ 96 → (axis : ℕ) → unsigned_abs (component (pos x ∷ pos 0 ∷ pos 0 ∷ []) axis) + rest < 2 ^ 96
on_x x rest narrow zero = narrow
on_x x rest narrow (suc zero) = omega arith
on_x x rest narrow (suc (suc zero)) = omega arith
on_x x rest narrow (suc (suc (suc axis))) = omega arith

pub at_x : (x : ℕ) → x < box_side → IsPlace (x ∷ 0 ∷ 0 ∷ [])
at_x x inside = (refl, All-three (λ y. y < box_side) x 0 0 inside (omega arith) (omega arith))

-- a list of two particles
pub two_in_bounds : (params : Params) (bounds : Bounds) (t : ℕ) (x y : Particle) → AreParamsInRange params → params.bin_min ≤ params.bin_max → AreBoundsInRange bounds → bounds.count ≡ 2
    → IsWithin params bounds x → IsWithin params bounds y → IsAt params bounds t x → IsAt params bounds t y → InBounds params bounds t (x ∷ y ∷ [])
two_in_bounds params bounds t x y params_in_range bins bounds_in_range count within_x within_y at_x at_y = record {
  params_in_range = params_in_range;
  bins = bins;
  bounds_in_range = bounds_in_range;
  count = sym count;
  within = All-two (IsWithin params bounds) x y within_x within_y;
  at = All-two (IsAt params bounds t) x y at_x at_y;
}

IsWithin-light : IsWithin params bounds light
IsWithin-light = let place = at_x 1512 (omega arith) in grind (arith, place)

IsWithin-heavy : IsWithin params bounds heavy
IsWithin-heavy = let place = at_x 1000 (omega arith) in grind (arith, place)

IsAt-light : IsAt params bounds 1 light
IsAt-light = record { bin = omega arith; began = refl; since = omega arith; until = omega arith; room = on_x 1211960844288 _ (omega arith) }

IsAt-heavy : IsAt params bounds 1 heavy
IsAt-heavy = record { bin = omega arith; began = refl; since = omega arith; until = omega arith; room = on_x 0 _ (omega arith) }

are_in_bounds : InBounds params bounds 1 (light ∷ heavy ∷ [])
are_in_bounds = two_in_bounds params bounds 1 light heavy (grind arith) (omega arith) (grind arith) refl IsWithin-light IsWithin-heavy IsAt-light IsAt-heavy

pub IsGoodScene-two_bins : (start : List Particle) (leaves : List (List ℕ)) (tasks : List TaskLine) (drift : Bool) → start ≡ light ∷ heavy ∷ [] → leaves ≡ (0 ∷ 1 ∷ []) ∷ [] → tasks ≡ one_leaf_lines drift
    → IsGoodScene (record { tick = 1; params = params; bounds = bounds; start = start; leaves = leaves; tasks = tasks; drift = drift })
IsGoodScene-two_bins start leaves tasks drift start_is leaves_are tasks_are =
    rw start_is
    (IsGoodScene-one_leaf (record { tick = 1; params = params; bounds = bounds; start = light ∷ heavy ∷ []; leaves = leaves; tasks = tasks; drift = drift })
    (record { due = refl; within = omega arith }) are_in_bounds leaves_are refl tasks_are)

-- the tasks that its block keeps where no drift is asked
pub tasks_of-one_leaf : (scene : Scene) (block : BlockRows) → scene.tasks ≡ one_leaf_lines false → Agrees scene 0 block → tasks_of block ≡ 0 ∷ 1 ∷ 2 ∷ 3 ∷ []
tasks_of-one_leaf scene block tasks agrees =
    agrees.tasks
    ∙ ap (λ (lines : List TaskLine). filter (λ task. touches (slice_index_or lines task (record { kind = Drift; first = (0, 0); second = None })) 0) (range_with_len 0 (length lines))) tasks
