-- The particles of a lattice, one after another: for each a, each b and each c is by their numbers.
use Rattle.std.proofs.Common.{◌≡◌, ℕ, zero, suc, ◌+◌, ◌*◌, ◌/◌, ◌%◌, ◌^◌, ◌<◌, List, [], ◌∷◌, ◌++◌, length, map, refl, sym, ap, ◌∙◌, add-one, arith}
use Rattle.std.specs.Prelude.{flat_map}
use Rattle.std.specs.List.{All, range_with_len}
use Rattle.std.proofs.lemmas.List.{map-append}
use Rattle.std.proofs.lemmas.List.Elements.{All-map}
use Rattle.std.proofs.lemmas.List.FromFn.{length-map-range_with_len, get_or-map-range_with_len}
use Rattle.std.proofs.lemmas.Nat.{div-mul-add, mod-mul-add}
use Rattle.lists.proofs.Elements.{All-from_Contains, All-flat_map}
use Rattle.lists.proofs.Ranges.{below_from_numbers, by_numbers, flat_map_range_more, range-add}
use Rattle.sph_num.specs.declared.particle.Particle.{Particle}
use Rattle.sph_lattice.specs.Lattice.{draw, edge, lattice_particles, number_after, particle_at, particle_drawn, sequence, seven_draws}
use Rattle.sph_lattice.specs.inner.Sites.{particle_numbered, site_numbered}

-- blocks of n numbers each, one after another, are a range
blocks : {X : Type 0} (f : ℕ → X) (first n m : ℕ) (part : ℕ → List X) → ((k : ℕ) → k < m → part k ≡ map f (range_with_len (first + k * n) n))
    → flat_map part (range_with_len 0 m) ≡ map f (range_with_len first (m * n))
blocks f first n zero part each =
    let none : 0 * n ≡ 0 = omega arith in
    rw none refl
blocks f first n (suc m) part each =
    let more : suc m ≡ m + 1 = omega arith in
    let at : 0 + m ≡ m = omega arith in
    let long : suc m * n ≡ m * n + n = omega arith in
    ap (λ k. flat_map part (range_with_len 0 k)) more ∙ flat_map_range_more part 0 m
    ∙ ap (λ l. l ++ part (0 + m)) (blocks f first n m part (λ k low. each k (omega arith)))
    ∙ ap (λ l. map f (range_with_len first (m * n)) ++ l) (ap part at ∙ each m (omega arith))
    ∙ sym (map-append f (range_with_len first (m * n)) (range_with_len (first + m * n) n))
    ∙ ap (map f) (sym (range-add first (m * n) n) ∙ ap (range_with_len first) (sym long))

-- the particle at a site is that of the site's number
particle_numbered-is : (side seed a b c : ℕ) → b < side → c < side → particle_numbered side seed ((a * side + b) * side + c) ≡ particle_at side seed a b c
particle_numbered-is side seed a b c low_b low_c =
    let n = (a * side + b) * side + c in
    let row : n / side ≡ a * side + b = div-mul-add (a * side + b) side c low_c in
    let first : n / side / side ≡ a = ap (λ x. x / side) row ∙ div-mul-add a side b low_b in
    let second : n / side % side ≡ b = ap (λ x. x % side) row ∙ mod-mul-add a side b low_b in
    let third : n % side ≡ c = mod-mul-add (a * side + b) side c low_c in
    let site : site_numbered side n ≡ a ∷ b ∷ c ∷ [] = rw (first, second, third) refl in
    ap (λ s. particle_drawn side s (seven_draws seed (7 * n))) site

-- those of a row, of a layer, and of the whole lattice
row_numbered : (side seed a b : ℕ) → b < side → map (λ c. particle_at side seed a b c) (edge side) ≡ map (particle_numbered side seed) (range_with_len ((a * side + b) * side) side)
row_numbered side seed a b low =
    let d = particle_at side seed a b 0 in
    by_numbers (particle_numbered side seed) d (map (λ c. particle_at side seed a b c) (edge side)) ((a * side + b) * side) side
    (length-map-range_with_len (λ c. particle_at side seed a b c) 0 side)
    (λ c low_c. get_or-map-range_with_len (λ k. particle_at side seed a b k) 0 side c c d low_c (omega arith) ∙ sym (particle_numbered-is side seed a b c low low_c))

layer_numbered : (side seed a : ℕ) → flat_map (λ b. map (λ c. particle_at side seed a b c) (edge side)) (edge side) ≡ map (particle_numbered side seed) (range_with_len (a * (side * side)) (side * side))
layer_numbered side seed a =
    blocks (particle_numbered side seed) (a * (side * side)) side side (λ b. map (λ c. particle_at side seed a b c) (edge side))
    (λ b low.
    let from : (a * side + b) * side ≡ a * (side * side) + b * side = omega arith in
    row_numbered side seed a b low ∙ ap (λ n. map (particle_numbered side seed) (range_with_len n side)) from)

pub lattice_numbered : (side seed n : ℕ) → n ≡ side * side * side → map (particle_numbered side seed) (range_with_len 0 n) ≡ lattice_particles side seed
lattice_numbered side seed n is =
    let count : n ≡ side * (side * side) = omega arith in
    ap (λ k. map (particle_numbered side seed) (range_with_len 0 k)) count
    ∙ sym (blocks (particle_numbered side seed) 0 (side * side) side (λ a. flat_map (λ b. map (λ c. particle_at side seed a b c) (edge side)) (edge side))
    (λ a low.
    let from : a * (side * side) ≡ 0 + a * (side * side) = omega arith in
    layer_numbered side seed a ∙ ap (λ k. map (particle_numbered side seed) (range_with_len k (side * side))) from))

-- how many there are
pub length-lattice_particles : (side seed : ℕ) → length (lattice_particles side seed) ≡ side * side * side
length-lattice_particles side seed =
    sym (ap length (lattice_numbered side seed (side * side * side) refl)) ∙ length-map-range_with_len (particle_numbered side seed) 0 (side * side * side)

-- what holds at each site holds of all
pub All-lattice_particles : (P : Particle → Type 0) (side seed : ℕ) → ((a b c : ℕ) → a < side → b < side → c < side → P (particle_at side seed a b c)) → All P (lattice_particles side seed)
All-lattice_particles P side seed each =
    All-flat_map P (λ a. flat_map (λ b. map (λ c. particle_at side seed a b c) (edge side)) (edge side)) (edge side)
    (All-edge (λ a. All P (flat_map (λ b. map (λ c. particle_at side seed a b c) (edge side)) (edge side))) side (λ a low_a.
    All-flat_map P (λ b. map (λ c. particle_at side seed a b c) (edge side)) (edge side)
    (All-edge (λ b. All P (map (λ c. particle_at side seed a b c) (edge side))) side (λ b low_b.
    All-map P (λ c. particle_at side seed a b c) (edge side)
    (All-edge (λ c. P (particle_at side seed a b c)) side (λ c low_c. each a b c low_a low_b low_c))))))
  where
    All-edge : (Q : ℕ → Type 0) (n : ℕ) → ((k : ℕ) → k < n → Q k) → All Q (edge n)
    All-edge Q n holds = All-from_Contains Q (edge n) (λ k member. holds k (below_from_numbers n k member))

-- what one draw gives, and where it leaves the sequence
pub record IsDrawnNext (seed k next value : ℕ) : Type 0 where
  pub number : next ≡ sequence seed (k + 1)
  pub value_is : value ≡ draw seed (k + 1)

sequence_next : (seed k : ℕ) → number_after (sequence seed k) ≡ sequence seed (k + 1)
unfolding sequence
sequence_next seed k = ap (sequence seed) (sym (add-one k))

pub drawn : (seed k v next value : ℕ) → v ≡ sequence seed k → next ≡ number_after v → value ≡ number_after v / 2 ^ 32 → IsDrawnNext seed k next value
drawn seed k v next value is next_is value_is =
    let goes_on : number_after v ≡ sequence seed (k + 1) = ap number_after is ∙ sequence_next seed k in
    record { number = next_is ∙ goes_on; value_is = value_is ∙ ap (λ x. x / 2 ^ 32) goes_on }
