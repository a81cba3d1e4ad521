-- Sums over lists joined, mapped and taken two by two, and what a sum of one says of the elements.
use Rattle.std.proofs.Common.{◌≡◌, ◌≢◌, ℕ, ◌+◌, ◌*◌, ◌<◌, List, [], ◌∷◌, map, flat_map, refl, ap, ◌∙◌, inl, inr, arith}
use Rattle.std.specs.List.{Contains, sum_by}
use Rattle.std.proofs.lemmas.List.Sums.{sum_by-cons, sum_by-append}
use Rattle.lists.proofs.Elements.{Contains-nil, Contains-head, Contains-later, Contains-cons_cases}
use Rattle.lists.proofs.Places.{get_from_Contains}
use Rattle.lists.proofs.Rising.{Rises, Rises-tail, head_below}
use Rattle.lists.proofs.Sums.{same_place, some_share, sum_by-none, sum_by-same, sum_by-add, sum_by-mul}
use Rattle.sph_num.specs.Cover.{JustOne}
use Rattle.pair_cover.specs.Looks.{twos}

-- the sum over parts joined, and over what a list was mapped to
pub sum_by-flat_map : {X A : Type 0} (f : A → ℕ) (g : X → List A) (xs : List X) → sum_by f (flat_map g xs) ≡ sum_by (λ x. sum_by f (g x)) xs
sum_by-flat_map f g [] = refl
sum_by-flat_map f g (x ∷ xs) =
    omega (arith, sum_by-append f (g x) (flat_map g xs), sum_by-flat_map f g xs, sum_by-cons (λ y. sum_by f (g y)) x xs)

pub sum_by-map : {X Y : Type 0} (f : Y → ℕ) (g : X → Y) (xs : List X) → sum_by f (map g xs) ≡ sum_by (λ x. f (g x)) xs
sum_by-map f g [] = refl
sum_by-map f g (x ∷ xs) = omega (arith, sum_by-cons f (g x) (map g xs), sum_by-map f g xs, sum_by-cons (λ y. f (g y)) x xs)

-- what agrees at each element has one sum
pub sum_by-agree : {X : Type 0} (f g : X → ℕ) (xs : List X) → ((x : X) → Contains xs x → f x ≡ g x) → sum_by f xs ≡ sum_by g xs
sum_by-agree f g [] h = refl
sum_by-agree f g (x ∷ xs) h =
    omega (arith, sum_by-cons f x xs, sum_by-cons g x xs, h x (Contains-head x xs), sum_by-agree f g xs (λ y c. h y (Contains-later x xs y c)))

-- where only one of rising numbers has a share, the sum is that
pub sum_by-only : (f : ℕ → ℕ) (xs : List ℕ) (k : ℕ) → Rises xs → Contains xs k → ((l : ℕ) → Contains xs l → l ≢ k → f l ≡ 0) → sum_by f xs ≡ f k
sum_by-only f [] k r c h = absurd (Contains-nil k c)
sum_by-only f (x ∷ xs) k r c h =
    elim (Contains-cons_cases x xs k c) [
      | inl e ↦
          let rest = sum_by-none f xs (λ y m. h y (Contains-later x xs y m) (λ same. let low = head_below x xs r y m in omega arith)) in
          omega (arith, sum_by-cons f x xs, ap f e)
      | inr m ↦
          let here = h x (Contains-head x xs) (λ same. let low = head_below x xs r k m in omega arith) in
          let rest = sum_by-only f xs k (Rises-tail x xs r) m (λ l n ne. h l (Contains-later x xs l n) ne) in
          omega (arith, sum_by-cons f x xs)
    ]

-- the sum of sums of two products, the second factors fixed, and the first
pub sum_by-products : {X : Type 0} (f g : X → ℕ) (m n : ℕ) (xs : List X) → sum_by (λ x. f x * m + g x * n) xs ≡ sum_by f xs * m + sum_by g xs * n
sum_by-products f g m n xs = omega (arith, sum_by-add (λ x. f x * m) (λ x. g x * n) xs, sum_by-mul f m xs, sum_by-mul g n xs)

pub sum_by-products_turned : {X : Type 0} (f g : X → ℕ) (m n : ℕ) (xs : List X) → sum_by (λ x. m * f x + n * g x) xs ≡ m * sum_by f xs + n * sum_by g xs
sum_by-products_turned f g m n xs =
    omega (arith, sum_by-same (λ x. m * f x + n * g x) (λ x. f x * m + g x * n) xs (λ x. omega arith), sum_by-products f g m n xs)

-- what a number and others have, each with itself and each two both ways
products_more : (x y a b s t u : ℕ) → s + t ≡ a * b → u ≡ x * b + y * a → x * y + s + (u + t) ≡ (x + a) * (y + b)
products_more x y a b s t u e h = omega arith

-- each with itself, and each two both ways, give the product of the sums
pub sum_by-twos : (f g : ℕ → ℕ) (xs : List ℕ) → sum_by (λ x. f x * g x) xs + sum_by (λ (t : ℕ × ℕ). f t.0 * g t.1 + g t.0 * f t.1) (twos xs) ≡ sum_by f xs * sum_by g xs
sum_by-twos f g [] = omega arith
sum_by-twos f g (x ∷ xs) =
    let both = λ (t : ℕ × ℕ). f t.0 * g t.1 + g t.0 * f t.1 in
    let here : sum_by both (map (λ y. (x, y)) xs) ≡ f x * sum_by g xs + g x * sum_by f xs = sum_by-map both (λ y. (x, y)) xs ∙ sum_by-products_turned g f (f x) (g x) xs in
    let all = products_more (f x) (g x) (sum_by f xs) (sum_by g xs) (sum_by (λ x. f x * g x) xs) (sum_by both (twos xs)) (sum_by both (map (λ y. (x, y)) xs)) (sum_by-twos f g xs) here in
    rw (sum_by-cons (λ x. f x * g x) x xs, sum_by-cons f x xs, sum_by-cons g x xs, sum_by-append both (map (λ y. (x, y)) xs) (twos xs)) all

-- what agrees at each two of a list has one sum
pub sum_by-twos_agree : (f g : ℕ × ℕ → ℕ) (xs : List ℕ) → ((x y : ℕ) → Contains xs x → Contains xs y → f (x, y) ≡ g (x, y)) → sum_by f (twos xs) ≡ sum_by g (twos xs)
sum_by-twos_agree f g [] h = refl
sum_by-twos_agree f g (x ∷ xs) h =
    let here = sum_by-agree (λ y. f (x, y)) (λ y. g (x, y)) xs (λ y c. h x y (Contains-head x xs) (Contains-later x xs y c)) in
    let there = sum_by-twos_agree f g xs (λ y z c d. h y z (Contains-later x xs y c) (Contains-later x xs z d)) in
    omega (
      arith,
      sum_by-append f (map (λ y. (x, y)) xs) (twos xs),
      sum_by-append g (map (λ y. (x, y)) xs) (twos xs),
      sum_by-map f (λ y. (x, y)) xs,
      sum_by-map g (λ y. (x, y)) xs,
    )

-- of the elements of which those that do have a share, just one does, if the shares sum to one
pub JustOne-from_sum : {X : Type 0} (share : X → ℕ) (does : X → Type 0) → ((x : X) → does x → 0 < share x) → ((x : X) → 0 < share x → does x)
    → (xs : List X) → sum_by share xs ≡ 1 → JustOne xs does
JustOne-from_sum share does has gives xs one =
    let some = some_share share xs (omega arith) in
    let place = get_from_Contains xs some.0 some.1 in
    record {
      index = place.0;
      element = some.0;
      stands = place.1;
      it_does = gives some.0 some.2;
      no_other = λ other x stands does. same_place share xs other place.0 x some.0 stands place.1 (has x does) some.2 (omega arith);
    }
