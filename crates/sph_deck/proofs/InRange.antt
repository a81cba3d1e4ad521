-- The numbers of a clean table are in their ranges.
use Rattle.std.proofs.Common.{◌≡◌, ℕ, suc, ◌-◌, ◌^◌, ◌<◌, ◌≤◌, Bool, true, false, ℤ, pos, neg_ℤ, negsuc, ◌≤ℤ◌, unsigned_abs, List, [], ◌∷◌, filter_map, length, Option, Some, None, IsSome, IsSomeAnd, All, refl, ◌∙◌, subst, arith}
use Rattle.std.proofs.lemmas.Int.{ints}
use Rattle.std.proofs.lemmas.List.{length-map}
use Rattle.std.proofs.lemmas.List.Elements.{All-cons, All-head, All-tail, All-map, All-nil, All-weaker}
use Rattle.std.specs.List.{cons_option}
use Rattle.std.specs.Prelude.{⊤}
use Rattle.lists.proofs.Elements.{All-three}
use Rattle.sph_num.specs.Ranges.{AreParamsInRange, IsBody, IsDeckMomentum}
use Rattle.sph_num.specs.Space.{box_side}
use Rattle.toml.specs.Data.{Data, Members, as_table}
use Rattle.sph_deck.specs.declared.key.Key.{Key}
use Rattle.sph_deck.specs.declared.key.Key.TheVariants.{Ticks, Every, BinMin, BinMax, Sound, Shift, Accuracy, Leaf, Pairs, Slack, Mass, H, X, Y, Z, Px, Py, Pz}
use Rattle.sph_deck.specs.Accepted.{AreInRange}
use Rattle.sph_deck.specs.Document.{elements, integer_at, whole_at, params_of, particle_of, particles_of}
use Rattle.sph_deck.specs.inner.Judged.{IsReadAt, IsWithin}
use Rattle.sph_deck.specs.Keys.{is_of_top, range_of}
use Rattle.sph_deck.specs.inner.Row.{AreNumbersRead}
use Rattle.sph_deck.specs.inner.Rows.{IsCleanTable}

-- the size is in a range from 0 up
abbrev HasSizeIn : Option (ℤ × ℤ) → ℕ → Type 0
HasSizeIn (Some (pos low, pos high)) n = (low ≤ n) × (n ≤ high)
HasSizeIn _ n = ⊤

size_within : (range : Option (ℤ × ℤ)) (z : ℤ) → IsWithin range z → HasSizeIn range (unsigned_abs z)
size_within (Some (pos low, pos high)) (pos n) within = (omega (arith, ints, within.0), omega (arith, ints, within.1))
size_within (Some (pos low, pos high)) (negsuc n) within = absurd (omega (arith, ints, within.0))
size_within _ z within = tt

-- a number that was read is in its range
whole_within : {of_top : Bool} {table : Members} → AreNumbersRead of_top table → (key : Key) → is_of_top key ≡ of_top → IsSome (range_of key) → HasSizeIn (range_of key) (whole_at key table)
whole_within numbers key own wants = let (z, read) = numbers key own wants in rw read.found (size_within (range_of key) z read.range)

-- the size of a component of a momentum
component_within : (z : ℤ) → (neg_ℤ (pos 9223372036854775807) ≤ℤ z) × (z ≤ℤ pos 9223372036854775807) → unsigned_abs z < 2 ^ 63
component_within (pos n) within = omega (arith, ints, within.1)
component_within (negsuc n) within = omega (arith, ints, within.0)

-- so is a component of a momentum
momentum_within : (key : Key) (table : Members) → range_of key ≡ Some (neg_ℤ (pos 9223372036854775807), pos 9223372036854775807) → (z : ℤ) × IsReadAt key table z → unsigned_abs (integer_at key table) < 2 ^ 63
momentum_within key table ranges (z, read) =
    let P : Option (ℤ × ℤ) → Type 0 = λ o. IsWithin o z in
    rw read.found (component_within z (subst P ranges read.range))

-- the parameters are in their ranges
params_within : (top : Members) → AreNumbersRead true top → AreParamsInRange (params_of top)
params_within top numbers = record {
  ticks = (whole_within numbers Ticks refl refl).1;
  every_low = (whole_within numbers Every refl refl).0;
  every_high = (whole_within numbers Every refl refl).1;
  bin_min = (whole_within numbers BinMin refl refl).1;
  bin_max = (whole_within numbers BinMax refl refl).1;
  sound_low = (whole_within numbers Sound refl refl).0;
  sound_high = (whole_within numbers Sound refl refl).1;
  shift = (whole_within numbers Shift refl refl).1;
  accuracy = omega (arith, (whole_within numbers Accuracy refl refl).1);
  leaf_low = (whole_within numbers Leaf refl refl).0;
  leaf_high = (whole_within numbers Leaf refl refl).1;
  pairs_low = (whole_within numbers Pairs refl refl).0;
  pairs_high = (whole_within numbers Pairs refl refl).1;
  slack = (whole_within numbers Slack refl refl).1;
}

-- a coordinate in its range is in the box
below_box : (n : ℕ) → n ≤ box_side - 1 → n < box_side
below_box n h = omega arith

-- a particle's mass, length and place are in their ranges
body_within : (table : Members) → AreNumbersRead false table → IsBody (particle_of table)
body_within table numbers =
    let mass = whole_within numbers Mass refl refl in
    let h = whole_within numbers H refl refl in
    record {
      mass = record { low = mass.0; high = mass.1 };
      h = record { low = h.0; high = h.1 };
      place = (refl, All-three (λ n. n < box_side) _ _ _ (below_box _ (whole_within numbers X refl refl).1) (below_box _ (whole_within numbers Y refl refl).1) (below_box _ (whole_within numbers Z refl refl).1));
    }

-- so is its momentum
momenta_within : (table : Members) → AreNumbersRead false table → IsDeckMomentum (particle_of table)
momenta_within table numbers =
    All-three (λ p. unsigned_abs p < 2 ^ 63) _ _ _
    (momentum_within Px table refl (numbers Px refl refl))
    (momentum_within Py table refl (numbers Py refl refl))
    (momentum_within Pz table refl (numbers Pz refl refl))

-- what holds of each table holds of those that are there
tables_all : (P : Members → Type 0) (elements : List Data) → All (λ element. IsSomeAnd (as_table element) P) elements → All P (filter_map as_table elements)
tables_all P [] all = All-nil P
tables_all P (d ∷ ds) all =
    first_table (as_table d) (All-head (λ element. IsSomeAnd (as_table element) P) d ds all) (tables_all P ds (All-tail (λ element. IsSomeAnd (as_table element) P) d ds all))
  where
    first_table : (o : Option Members) → IsSomeAnd o P → All P (filter_map as_table ds) → All P (cons_option o (filter_map as_table ds))
    first_table None here rest = absurd here
    first_table (Some table) here rest = All-cons P table (filter_map as_table ds) here rest

-- all of them are there
tables_count : (P : Members → Type 0) (elements : List Data) → All (λ element. IsSomeAnd (as_table element) P) elements → length (filter_map as_table elements) ≡ length elements
tables_count P [] all = refl
tables_count P (d ∷ ds) all =
    count_first (as_table d) (All-head (λ element. IsSomeAnd (as_table element) P) d ds all) (tables_count P ds (All-tail (λ element. IsSomeAnd (as_table element) P) d ds all))
  where
    count_first : (o : Option Members) → IsSomeAnd o P → length (filter_map as_table ds) ≡ length ds → length (cons_option o (filter_map as_table ds)) ≡ suc (length ds)
    count_first None here rest = absurd here
    count_first (Some table) here rest = rw rest

-- so all are in range
pub numbers_within : (top : Members) → IsCleanTable top → AreInRange (params_of top) (particles_of top)
numbers_within top clean =
    let tables = tables_all (AreNumbersRead false) (elements top) clean.rows in
    let rows = filter_map as_table (elements top) in
    let count = length-map rows particle_of ∙ tables_count (AreNumbersRead false) (elements top) clean.rows in
    record {
      params_in_range = params_within top clean.row;
      bodies = λ k d low. All-map IsBody particle_of rows (All-weaker (AreNumbersRead false) (λ t. IsBody (particle_of t)) body_within rows tables) k d low;
      momenta = λ k d low. All-map IsDeckMomentum particle_of rows (All-weaker (AreNumbersRead false) (λ t. IsDeckMomentum (particle_of t)) momenta_within rows tables) k d low;
      axes = λ k d low. All-map (λ p. length p.p ≡ 3) particle_of rows (All-weaker (AreNumbersRead false) (λ t. length (particle_of t).p ≡ 3) (λ t n. refl) rows tables) k d low;
      some = rw count clean.some;
      not_too_many = rw count clean.few;
    }
