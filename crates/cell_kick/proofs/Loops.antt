-- A loop that writes each element of a list, one after the other.
use Rattle.std.proofs.Common.{◌≡◌, ℕ, ◌+◌, ◌<◌, ◌≤◌, List, length, get_or, set, map, length-set, inl, inr, refl, sym, ap, ◌∙◌, arith}
use Rattle.std.proofs.lemmas.Bool.{cases_lt}
use Rattle.std.proofs.lemmas.List.{ext_get_or, get_or-map, get_or-set_same, get_or-set_other, get_or_default, length-map}
use Rattle.cell_kick.specs.inner.Written.{AreEach}

-- the first elements are written, the others as they were
pub record AreEachTo {X : Type 0} (made : ℕ → X → X) (upto : ℕ) (before after : List X) : Type 0 where
  pub same_length : length after ≡ length before
  pub written : (k : ℕ) (d : X) → k < upto → k < length before → get_or after k d ≡ made k (get_or before k d)
  pub rest : (k : ℕ) (d : X) → upto ≤ k → get_or after k d ≡ get_or before k d

pub none_each : {X : Type 0} (made : ℕ → X → X) (xs : List X) → AreEachTo made 0 xs xs
none_each made xs = record { same_length = refl; written = λ k d low inside. absurd (omega arith); rest = λ k d high. refl }

pub next_each : {X : Type 0} (made : ℕ → X → X) (i : ℕ) (before now : List X) (new d : X) → i < length before → AreEachTo made i before now → new ≡ made i (get_or now i d) → AreEachTo made (i + 1) before (set now i new)
next_each made i before now new d inside so_far is =
    let within : i < length now = omega (arith, so_far.same_length) in
    record {
      same_length = length-set now i new ∙ so_far.same_length;
      written = λ k e low here. elim (cases_lt k i) [
        | inl below ↦ get_or-set_other now i k new e (omega arith) ∙ so_far.written k e below here
        | inr above ↦
            let at : k ≡ i = omega arith in
            let was = get_or_default now i d e within ∙ so_far.rest i e (omega arith) in
            rw at (get_or-set_same now i new e within ∙ is ∙ ap (made i) was)
      ];
      rest = λ k e high. get_or-set_other now i k new e (omega arith) ∙ so_far.rest k e (omega arith);
    }

-- an element that stays as it was
pub next_same : {X : Type 0} (made : ℕ → X → X) (i : ℕ) (before now : List X) (d : X) → i < length before → AreEachTo made i before now → made i (get_or now i d) ≡ get_or now i d → AreEachTo made (i + 1) before now
next_same made i before now d inside so_far is =
    let within : i < length now = omega (arith, so_far.same_length) in
    record {
      same_length = so_far.same_length;
      written = λ k e low here. elim (cases_lt k i) [
        | inl below ↦ so_far.written k e below here
        | inr above ↦
            let at : k ≡ i = omega arith in
            let was = get_or_default now i d e within ∙ so_far.rest i e (omega arith) in
            rw at (get_or_default now i e d within ∙ sym is ∙ ap (made i) was)
      ];
      rest = λ k e high. so_far.rest k e (omega arith);
    }

pub all_each : {X : Type 0} (made : ℕ → X → X) (i : ℕ) (before after : List X) → length before ≤ i → AreEachTo made i before after → AreEach made before after
all_each made i before after high are = record { same_length = are.same_length; each = λ k d inside. are.written k d (omega arith) inside }

-- what is written of the members of a leaf, seen through a function
pub written_of_members : {X Y : Type 0} (seen : X → Y) (made : ℕ → X → X) (members : List ℕ) (value : ℕ → Y) (before after : List X) (d : X) → length before ≡ length members → AreEach made before after
    → ((k : ℕ) → k < length members → seen (made k (get_or before k d)) ≡ value (get_or members k 0)) → map seen after ≡ map value members
written_of_members seen made members value before after d long are each =
    let e = seen d in
    ext_get_or e (map seen after) (map value members) (length-map after seen ∙ are.same_length ∙ long ∙ sym (length-map members value))
    (λ k low.
    let inside : k < length before = omega (arith, low, length-map after seen, are.same_length) in
    let within : k < length members = omega (arith, inside, long) in
    get_or-map seen after k d e (omega (arith, inside, are.same_length)) ∙ ap seen (are.each k d inside) ∙ each k within ∙ sym (get_or-map value members k 0 e within))
