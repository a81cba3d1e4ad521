-- Sums of signed numbers: products with their terms, equal terms, sums of sums, and sums that cancel.
use Rattle.std.proofs.Common.{◌≡◌, ℕ, zero, suc, List, [], ◌∷◌, Contains, refl, ap, sym, ◌∙◌, arith}
use Rattle.std.specs.Prelude.{ℤ, pos, ◌+ℤ◌, ◌-ℤ◌, ◌*ℤ◌}
use lib.IntN.{*ℤ-zero, *ℤ_comm, suc_ℤ-*ℤ, zero-*ℤ}
use Rattle.std.proofs.lemmas.Int.{ints}
use Rattle.lists.proofs.Elements.{Contains-head, Contains-later}
use Rattle.sph_num.specs.Totals.{total_by}

-- a number of times one more
times_suc : (z : ℤ) (n : ℕ) → z *ℤ pos (suc n) ≡ z *ℤ pos n +ℤ z
times_suc z n = *ℤ_comm z (pos (suc n)) ∙ suc_ℤ-*ℤ (pos n) z ∙ ap (λ k. k +ℤ z) (*ℤ_comm (pos n) z)

-- so many times a sum, and the opposite
sum_times : (a b : ℤ) (n : ℕ) → (a +ℤ b) *ℤ pos n ≡ a *ℤ pos n +ℤ b *ℤ pos n
sum_times a b zero = *ℤ-zero (a +ℤ b) ∙ sym (ap (λ z. z +ℤ b *ℤ pos 0) (*ℤ-zero a) ∙ ap (λ z. pos 0 +ℤ z) (*ℤ-zero b))
sum_times a b (suc n) =
    let before : (a +ℤ b) *ℤ pos n ≡ a *ℤ pos n +ℤ b *ℤ pos n = sum_times a b n in
    times_suc (a +ℤ b) n ∙ ap (λ z. z +ℤ (a +ℤ b)) before ∙ regroup (a *ℤ pos n) (b *ℤ pos n) a b
    ∙ sym (ap (λ z. z +ℤ b *ℤ pos (suc n)) (times_suc a n) ∙ ap (λ z. (a *ℤ pos n +ℤ a) +ℤ z) (times_suc b n))
  where
    regroup : (x y u v : ℤ) → (x +ℤ y) +ℤ (u +ℤ v) ≡ (x +ℤ u) +ℤ (y +ℤ v)
    regroup x y u v = omega (arith, ints)

pub times_opposite : (n : ℕ) (z : ℤ) → pos n *ℤ (pos 0 -ℤ z) ≡ pos 0 -ℤ pos n *ℤ z
times_opposite zero z = zero-*ℤ (pos 0 -ℤ z) ∙ sym (ap (λ k. pos 0 -ℤ k) (zero-*ℤ z))
times_opposite (suc n) z =
    suc_ℤ-*ℤ (pos n) (pos 0 -ℤ z) ∙ ap (λ k. k +ℤ (pos 0 -ℤ z)) (times_opposite n z) ∙ regroup (pos n *ℤ z) z ∙ sym (ap (λ k. pos 0 -ℤ k) (suc_ℤ-*ℤ (pos n) z))
  where
    regroup : (x z : ℤ) → (pos 0 -ℤ x) +ℤ (pos 0 -ℤ z) ≡ pos 0 -ℤ (x +ℤ z)
    regroup x z = omega (arith, ints)

-- equal terms have equal sums
pub total_by-same : {X : Type 0} (f g : X → ℤ) (xs : List X) → ((x : X) → Contains xs x → f x ≡ g x) → total_by f xs ≡ total_by g xs
total_by-same f g [] same = refl
total_by-same f g (x ∷ xs) same =
    ap (λ z. z +ℤ total_by f xs) (same x (Contains-head x xs)) ∙ ap (λ z. g x +ℤ z) (total_by-same f g xs (λ y member. same y (Contains-later x xs y member)))

-- a sum of two at each element, of nothing, of each turned, and of each so many times
pub total_by-add : {X : Type 0} (f g : X → ℤ) (xs : List X) → total_by (λ x. f x +ℤ g x) xs ≡ total_by f xs +ℤ total_by g xs
total_by-add f g [] = omega (arith, ints)
total_by-add f g (x ∷ xs) = omega (arith, ints, total_by-add f g xs)

total_by-nothing : {X : Type 0} (xs : List X) → total_by (λ x. pos 0) xs ≡ pos 0
total_by-nothing [] = refl
total_by-nothing (x ∷ xs) = omega (arith, ints, total_by-nothing xs)

total_by-less : {X : Type 0} (f : X → ℤ) (xs : List X) → total_by (λ x. pos 0 -ℤ f x) xs ≡ pos 0 -ℤ total_by f xs
total_by-less f [] = omega (arith, ints)
total_by-less f (x ∷ xs) = omega (arith, ints, total_by-less f xs)

pub total_by-times : {X : Type 0} (f : X → ℤ) (n : ℕ) (xs : List X) → total_by (λ x. f x *ℤ pos n) xs ≡ total_by f xs *ℤ pos n
total_by-times f n [] = sym (zero-*ℤ (pos n))
total_by-times f n (x ∷ xs) = ap (λ z. f x *ℤ pos n +ℤ z) (total_by-times f n xs) ∙ sym (sum_times (f x) (total_by f xs) n)

-- a sum of sums, in the other order
total_by-turned : {X Y : Type 0} (f : X → Y → ℤ) (xs : List X) (ys : List Y) → total_by (λ x. total_by (f x) ys) xs ≡ total_by (λ y. total_by (λ x. f x y) xs) ys
total_by-turned f [] ys = sym (total_by-nothing ys)
total_by-turned f (x ∷ xs) ys =
    ap (λ z. total_by (f x) ys +ℤ z) (total_by-turned f xs ys) ∙ sym (total_by-add (f x) (λ y. total_by (λ x. f x y) xs) ys)

none_from_less : (z : ℤ) → z ≡ pos 0 -ℤ z → z ≡ pos 0
none_from_less z h = omega (arith, ints)

-- where each two elements give opposite numbers, all of them cancel
pub total_by-cancels : {X : Type 0} (f : X → X → ℤ) (xs : List X) → ((x y : X) → Contains xs x → Contains xs y → f y x ≡ pos 0 -ℤ f x y) → total_by (λ x. total_by (f x) xs) xs ≡ pos 0
total_by-cancels f xs opposite =
    let all = total_by (λ x. total_by (f x) xs) xs in
    none_from_less all
    (total_by-turned f xs xs
    ∙ total_by-same (λ y. total_by (λ x. f x y) xs) (λ y. pos 0 -ℤ total_by (f y) xs) xs
    (λ y of_y. total_by-same (λ x. f x y) (λ x. pos 0 -ℤ f y x) xs (λ x of_x. opposite y x of_y of_x) ∙ total_by-less (f y) xs)
    ∙ total_by-less (λ y. total_by (f y) xs) xs)
