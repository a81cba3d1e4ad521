-- The lists of a run: the first is in bounds, and each step keeps them there.
use Rattle.std.proofs.Common.{◌≡◌, ℕ, zero, suc, max, ◌+◌, ◌*◌, ◌/◌, ◌^◌, ◌<◌, ◌≤◌, List, [], ◌∷◌, length, map, get_or, inl, inr, ap, ◌∙◌, subst, refl, arith}
use Rattle.std.specs.Prelude.{ℤ, pos, fold, flat_map, unsigned_abs}
use Rattle.std.specs.List.{All}
use Rattle.std.proofs.lemmas.Bool.{cases_lt}
use Rattle.std.proofs.lemmas.List.{length-map}
use Rattle.std.proofs.lemmas.List.Elements.{All-nil, All-cons, All-head, All-tail, All-map, All-weaker}
use Rattle.std.proofs.lemmas.List.Sums.{fold-append}
use Rattle.std.proofs.lemmas.Nat.{pow_pos}
use Rattle.std.proofs.Math.ListN.{get_or-eq_default}
use Rattle.std.proofs.Math.Nat.{mul-mod_left, add-div_right}
use Rattle.lists.proofs.Extremes.{fold_max-ge, All-fold_min, All-fold_max}
use Rattle.sph_num.specs.declared.particle.Bounds.{Bounds}
use Rattle.sph_num.specs.declared.particle.Params.{Params}
use Rattle.sph_num.specs.declared.particle.Particle.{Particle}
use Rattle.sph_num.specs.Bound.{least_of, greatest_of, bounds_of, greatest_momentum, greatest_force, momentum_limit}
use Rattle.sph_num.specs.Ranges.{IsBody}
use Rattle.sph_num.specs.Totals.{component}
use Rattle.sph_num.proofs.Extremes.{AreBoundsInRange-bounds_of}
use Rattle.sph_deck.specs.declared.deck.Deck.{Deck}
use Rattle.sph_deck.specs.Accepted.{AreAccepted}
use Rattle.sph_bins.specs.Bins.{IsStepTick}
use Rattle.sph_bins.specs.InBounds.{IsWithin, IsAtStart, IsAt, InBounds}
use Rattle.sph_bins.specs.Kick.{next_list}
use Rattle.sph_bins.proofs.Narrow.{force_at-le, ghost_at-le}
use Rattle.sph_bins.proofs.Room.{quotient_of_multiple}
use Rattle.sph_bins.proofs.Steps.{steps_keep_bounds_from}
use Rattle.sph_plain.specs.Run.{started, start, before_step, before, after}

-- what holds of each value of a function holds of its arguments
All-unmap : {X Y : Type 0} (P : Y → Type 0) (f : X → Y) (xs : List X) → All P (map f xs) → All (λ x. P (f x)) xs
All-unmap P f [] all = All-nil (λ x. P (f x))
All-unmap P f (x ∷ xs) all = All-cons (λ y. P (f y)) x xs (All-head P (f x) (map f xs) all) (All-unmap P f xs (All-tail P (f x) (map f xs) all))

-- each part of a list of lists is within the greatest of all
All-parts : {X : Type 0} (a m : ℕ) (f : X → List ℕ) (xs : List X) → fold max a (flat_map f xs) ≤ m → All (λ x. All (λ y. y ≤ m) (f x)) xs
All-parts a m f [] high = All-nil (λ x. All (λ y. y ≤ m) (f x))
All-parts a m f (x ∷ xs) high =
    let rest : fold max (fold max a (f x)) (flat_map f xs) ≤ m = omega (arith, fold-append max a (f x) (flat_map f xs)) in
    let first : fold max a (f x) ≤ m = omega (arith, fold_max-ge (fold max a (f x)) (flat_map f xs)) in
    All-cons (λ y. All (λ z. z ≤ m) (f y)) x xs
    (All-weaker (λ y. y ≤ fold max a (f x)) (λ y. y ≤ m) (λ y h. omega arith) (f x) (All-fold_max a (f x)))
    (All-parts (fold max a (f x)) m f xs rest)

-- a component is within what bounds each
component-le : (m : ℕ) (p : List ℤ) → All (λ z. unsigned_abs z ≤ m) p → (axis : ℕ) → unsigned_abs (component p axis) ≤ m
component-le m p all axis =
    elim (cases_lt axis (length p)) [
      | inl inside ↦ all axis (pos 0) inside
      | inr beyond ↦ rw (get_or-eq_default p (pos 0) beyond) (omega arith)
    ]

-- the components of each momentum of a list
All-momenta : (list : List Particle) → All (λ (p : Particle). (axis : ℕ) → unsigned_abs (component p.p axis) ≤ greatest_momentum list) list
All-momenta list =
    let m = greatest_momentum list in
    let parts = All-parts 0 m (λ (p : Particle). map unsigned_abs p.p) list (omega arith) in
    All-weaker (λ (p : Particle). All (λ y. y ≤ m) (map unsigned_abs p.p)) (λ p. (axis : ℕ) → unsigned_abs (component p.p axis) ≤ m)
    (λ p all. component-le m p.p (All-unmap (λ y. y ≤ m) unsigned_abs p.p all)) list parts

-- the room that the limit leaves
room-lt : (a m force ticks limit : ℕ) → a ≤ m → m + force * ticks < limit → a + force * ticks < limit
room-lt a m force ticks limit low fits = omega arith

-- what a deck's particle keeps of its deck's bounds
record KeepsBounds (bounds : Bounds) (most : ℕ) (p : Particle) : Type 0 where
  body : IsBody p
  mass_low : bounds.mass.0 ≤ p.mass
  mass_high : p.mass ≤ bounds.mass.1
  h_low : bounds.h.0 ≤ p.h
  h_high : p.h ≤ bounds.h.1
  momentum : (axis : ℕ) → unsigned_abs (component p.p axis) ≤ most

All-keep_bounds : (list : List Particle) → All IsBody list → All (KeepsBounds (bounds_of list) (greatest_momentum list)) list
All-keep_bounds list bodies =
    let masses = map (λ (p : Particle). p.mass) list in
    let lengths = map (λ (p : Particle). p.h) list in
    let mass_low = All-unmap (λ x. least_of masses ≤ x) (λ (p : Particle). p.mass) list (All-fold_min (get_or masses 0 0) masses) in
    let mass_high = All-unmap (λ x. x ≤ greatest_of masses) (λ (p : Particle). p.mass) list (All-fold_max 0 masses) in
    let h_low = All-unmap (λ x. least_of lengths ≤ x) (λ (p : Particle). p.h) list (All-fold_min (get_or lengths 0 0) lengths) in
    let h_high = All-unmap (λ x. x ≤ greatest_of lengths) (λ (p : Particle). p.h) list (All-fold_max 0 lengths) in
    let momenta = All-momenta list in
    λ k d inside. record {
      body = bodies k d inside;
      mass_low = mass_low k d inside;
      mass_high = mass_high k d inside;
      h_low = h_low k d inside;
      h_high = h_high k d inside;
      momentum = momenta k d inside;
    }

-- such a particle as it starts
IsWithin-started : (params : Params) (bounds : Bounds) (most : ℕ) (p : Particle) → KeepsBounds bounds most p → IsWithin params bounds (started p)
IsWithin-started params bounds most p keeps =
    record {
      mass_low = keeps.mass_low;
      mass_high = keeps.mass_high;
      h_low = keeps.h_low;
      h_high = keeps.h_high;
      place = keeps.body.place;
      ghost_term = omega arith;
      bin = omega arith;
    }

IsAtStart-started : (params : Params) (bounds : Bounds) (most : ℕ) (p : Particle) → momentum_limit params bounds most < 2 ^ 96 → KeepsBounds bounds most p → IsAtStart params bounds (started p)
IsAtStart-started params bounds most p sums keeps =
    record {
      tick = refl;
      bin = refl;
      room = λ axis. room-lt (unsigned_abs (component p.p axis)) most (greatest_force params.sound bounds) (2 * params.ticks + 2 ^ params.bin_max) (2 ^ 96) (keeps.momentum axis) sums;
    }

-- the list before a run is in bounds
InBounds-start : (deck : Deck) → AreAccepted deck.params deck.particles → InBounds deck.params (bounds_of deck.particles) 0 (start deck)
InBounds-start deck is =
    let params = deck.params in
    let list = deck.particles in
    let bounds = bounds_of list in
    let most = greatest_momentum list in
    let keep = All-keep_bounds list is.in_range.bodies in
    record {
      params_in_range = is.in_range.params_in_range;
      bins = is.bins;
      bounds_in_range = AreBoundsInRange-bounds_of list is.in_range.some is.in_range.not_too_many is.in_range.bodies;
      count = length-map list started;
      within = All-map (IsWithin params bounds) started list (All-weaker (KeepsBounds bounds most) (λ p. IsWithin params bounds (started p)) (λ p keeps. IsWithin-started params bounds most p keeps) list keep);
      at = All-map (IsAt params bounds 0) started list (All-weaker (KeepsBounds bounds most) (λ p. IsAt params bounds 0 (started p)) (λ p keeps. IsAtStart-started params bounds most p is.sums keeps) list keep);
    }

-- the multiple of the least step is a tick of a step
step_tick : (params : Params) (k : ℕ) → k * 2 ^ params.bin_min ≤ params.ticks → IsStepTick params (k * 2 ^ params.bin_min)
step_tick params k early = record { due = mul-mod_left k (2 ^ params.bin_min); within = early }

-- so is the list before each step, by its number
InBounds-before_step : (deck : Deck) (k : ℕ) → AreAccepted deck.params deck.particles → k * 2 ^ deck.params.bin_min ≤ deck.params.ticks → InBounds deck.params (bounds_of deck.particles) (k * 2 ^ deck.params.bin_min) (before_step deck k)
InBounds-before_step deck zero is early =
    let none : 0 * 2 ^ deck.params.bin_min ≡ 0 = omega arith in
    rw none (InBounds-start deck is)
InBounds-before_step deck (suc k) is early =
    let step = 2 ^ deck.params.bin_min in
    let next : suc k * step ≡ k * step + step = omega arith in
    let earlier : k * step ≤ deck.params.ticks = omega arith in
    let kept = steps_keep_bounds_from force_at-le ghost_at-le deck.params (bounds_of deck.particles) (k * step) (before_step deck k) (InBounds-before_step deck k is earlier) (step_tick deck.params k earlier) in
    rw next kept

-- and by its tick
pub InBounds-before : (deck : Deck) (t : ℕ) → AreAccepted deck.params deck.particles → IsStepTick deck.params t → InBounds deck.params (bounds_of deck.particles) t (before deck t)
unfolding before
InBounds-before deck t is tick =
    let k = t / 2 ^ deck.params.bin_min in
    let whole : k * 2 ^ deck.params.bin_min ≡ t = quotient_of_multiple (2 ^ deck.params.bin_min) t tick.due in
    subst (λ n. InBounds deck.params (bounds_of deck.particles) n (before_step deck k)) whole (InBounds-before_step deck k is (omega (arith, tick.within)))

-- the list before the next step is the one after this
pub before_next : (deck : Deck) (t : ℕ) → IsStepTick deck.params t → before deck (t + 2 ^ deck.params.bin_min) ≡ after deck t
unfolding before after
before_next deck t tick =
    let step = 2 ^ deck.params.bin_min in
    let whole : (t / step) * step ≡ t = quotient_of_multiple step t tick.due in
    let number : (t + step) / step ≡ suc (t / step) = omega (arith, add-div_right t (pow_pos deck.params.bin_min)) in
    ap (before_step deck) number ∙ ap (λ n. next_list deck.params (before_step deck (t / step)) n) whole

-- the list before tick 0
pub before-zero : (deck : Deck) → start deck ≡ before deck 0
unfolding before
before-zero deck =
    let none : 0 / 2 ^ deck.params.bin_min ≡ 0 = omega arith in
    rw none refl
