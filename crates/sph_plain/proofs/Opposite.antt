-- Two particles push each other by opposite forces, so the forces of a list cancel.
use Rattle.std.proofs.Common.{◌≡◌, ℕ, zero, suc, max, ◌+◌, ◌*◌, ◌<◌, List, [], ◌∷◌, Contains, get_or, refl, ap, ◌∙◌, inl, inr, arith}
use Rattle.std.specs.Prelude.{ℤ, pos, ◌-ℤ◌, ◌*ℤ◌}
use Rattle.std.proofs.lemmas.Bool.{cases_lt}
use Rattle.std.proofs.lemmas.Int.{ints}
use Rattle.std.proofs.lemmas.List.Elements.{All-contains}
use Rattle.sph_num.specs.declared.particle.Bounds.{Bounds}
use Rattle.sph_num.specs.declared.particle.Params.{Params}
use Rattle.sph_num.specs.declared.particle.Particle.{Particle}
use Rattle.sph_num.specs.Force.{factor_within, force_factor, force_from}
use Rattle.sph_num.specs.Ranges.{AreBoundsInRange, IsLength}
use Rattle.sph_num.specs.Space.{IsPlace, dist2, minimal}
use Rattle.sph_num.specs.Totals.{component, total_by, vector_of}
use Rattle.sph_num.proofs.Drifts.{IsPlace-position_of}
use Rattle.sph_num.proofs.Forces.{force_factor_out_of_reach}
use Rattle.sph_num.proofs.Turned.{dist2-comm, minimal_turned_in_reach}
use Rattle.sph_bins.specs.InBounds.{InBounds, IsWithin}
use Rattle.sph_bins.specs.Kick.{force_at, ghost_at, place_at}
use Rattle.sph_plain.proofs.SignedTotals.{times_opposite, total_by-cancels, total_by-same}

-- the factor of a pair is that of the pair turned
force_factor-turned : (mi mj h h' gi gj r2 : ℕ) → force_factor (mj ∷ mi ∷ []) (h' ∷ h ∷ []) (gj ∷ gi ∷ []) r2 ≡ force_factor (mi ∷ mj ∷ []) (h ∷ h' ∷ []) (gi ∷ gj ∷ []) r2
force_factor-turned mi mj h h' gi gj r2 =
    let both : mj * mi ≡ mi * mj = omega arith in
    ap (λ m. factor_within m gj r2 h' + factor_within m gi r2 h) both ∙ omega arith

-- no times any number
no_times : (z w : ℤ) → pos 0 *ℤ z ≡ pos 0 -ℤ pos 0 *ℤ w
no_times z w = omega (arith, ints)

force_from-turned : (place : Particle → List ℕ) (g : Particle → ℕ) (axis : ℕ) (i j : Particle) → IsPlace (place i) → IsPlace (place j) → IsLength i.h → IsLength j.h
    → force_from place g axis j i ≡ pos 0 -ℤ force_from place g axis i j
force_from-turned place g axis i j of_i of_j is is' =
    let r2 = dist2 (place i) (place j) in
    let factor = force_factor (i.mass ∷ j.mass ∷ []) (i.h ∷ j.h ∷ []) (g i ∷ g j ∷ []) r2 in
    let there = minimal (get_or (place i) axis 0) (get_or (place j) axis 0) in
    let back = minimal (get_or (place j) axis 0) (get_or (place i) axis 0) in
    let same : force_factor (j.mass ∷ i.mass ∷ []) (j.h ∷ i.h ∷ []) (g j ∷ g i ∷ []) (dist2 (place j) (place i)) ≡ factor =
    ap (force_factor (j.mass ∷ i.mass ∷ []) (j.h ∷ i.h ∷ []) (g j ∷ g i ∷ [])) (dist2-comm (place j) (place i) of_j of_i)
    ∙ force_factor-turned i.mass j.mass i.h j.h (g i) (g j) r2 in
    ap (λ n. pos n *ℤ back) same
    ∙ elim (cases_lt r2 (max i.h j.h * max i.h j.h)) [
      | inl near ↦ ap (λ z. pos factor *ℤ z) (minimal_turned_in_reach (place i) (place j) i.h j.h axis of_i of_j is is' near) ∙ times_opposite factor there
      | inr far ↦
          let none : factor ≡ 0 = force_factor_out_of_reach i.mass j.mass i.h j.h (g i) (g j) r2 far in
          ap (λ n. pos n *ℤ back) none ∙ no_times back there ∙ ap (λ n. pos 0 -ℤ pos n *ℤ there) (none_back factor none)
    ]
  where
    none_back : (n : ℕ) → n ≡ 0 → 0 ≡ n
    none_back n e = omega arith

-- a component of a vector that is given by its components
pub component-vector_of : (f : ℕ → ℤ) (axis : ℕ) → axis < 3 → component (vector_of f) axis ≡ f axis
component-vector_of f zero low = refl
component-vector_of f (suc zero) low = refl
component-vector_of f (suc (suc zero)) low = refl
component-vector_of f (suc (suc (suc axis))) low = absurd (omega arith)

-- a particle of a list in bounds has a length in its range
IsLength-within : (params : Params) (bounds : Bounds) (i : Particle) → AreBoundsInRange bounds → IsWithin params bounds i → IsLength i.h
IsLength-within params bounds i are within =
    record { low = omega (arith, are.least_h.low, within.h_low); high = omega (arith, are.greatest_h.high, within.h_high) }

-- the forces on all particles of a list in bounds cancel
pub forces_cancel : (params : Params) (bounds : Bounds) (t : ℕ) (list : List Particle) (axis : ℕ) → InBounds params bounds t list → axis < 3
    → total_by (λ i. component (force_at params t list i) axis) list ≡ pos 0
forces_cancel params bounds t list axis are real =
    let place = place_at params t in
    let g = ghost_at params t list in
    let length_of = λ (i : Particle) (member : Contains list i). IsLength-within params bounds i are.bounds_in_range (All-contains (IsWithin params bounds) list i are.within member) in
    total_by-same (λ i. component (force_at params t list i) axis) (λ i. total_by (force_from place g axis i) list) list
    (λ i member. component-vector_of (λ a. total_by (λ j. force_from place g a i j) list) axis real)
    ∙ total_by-cancels (force_from place g axis) list
    (λ i j of_i of_j. force_from-turned place g axis i j (IsPlace-position_of params.shift t i) (IsPlace-position_of params.shift t j) (length_of i of_i) (length_of j of_j))
