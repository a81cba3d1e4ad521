-- The least and the greatest of a list, which keep to what bounds its elements.
use Rattle.std.proofs.Common.{ℕ, min, max, ◌<◌, ◌≤◌, List, [], ◌∷◌, arith}
use Rattle.std.specs.Prelude.{fold}
use Rattle.std.specs.List.{All}
use Rattle.std.proofs.lemmas.List.Elements.{All-nil, All-cons, All-head, All-tail}

-- the least of a number and a list, and the greatest
pub fold_min-ge : (n a : ℕ) (xs : List ℕ) → n ≤ a → All (λ x. n ≤ x) xs → n ≤ fold min a xs
fold_min-ge n a [] low each = low
fold_min-ge n a (x ∷ xs) low each = fold_min-ge n (min a x) xs (omega (arith, All-head (λ x. n ≤ x) x xs each)) (All-tail (λ x. n ≤ x) x xs each)

pub fold_min-le : (a : ℕ) (xs : List ℕ) → fold min a xs ≤ a
fold_min-le a [] = omega arith
fold_min-le a (x ∷ xs) = omega (arith, fold_min-le (min a x) xs)

pub fold_max-le : (n a : ℕ) (xs : List ℕ) → a ≤ n → All (λ x. x ≤ n) xs → fold max a xs ≤ n
fold_max-le n a [] high each = high
fold_max-le n a (x ∷ xs) high each = fold_max-le n (max a x) xs (omega (arith, All-head (λ x. x ≤ n) x xs each)) (All-tail (λ x. x ≤ n) x xs each)

pub fold_max-ge : (a : ℕ) (xs : List ℕ) → a ≤ fold max a xs
fold_max-ge a [] = omega arith
fold_max-ge a (x ∷ xs) = omega (arith, fold_max-ge (max a x) xs)

pub fold_max-lt : (n a : ℕ) (xs : List ℕ) → a < n → All (λ x. x < n) xs → fold max a xs < n
fold_max-lt n a [] high each = high
fold_max-lt n a (x ∷ xs) high each = fold_max-lt n (max a x) xs (omega (arith, All-head (λ x. x < n) x xs each)) (All-tail (λ x. x < n) x xs each)

-- the least is no more than each element, and the greatest no less
pub All-fold_min : (a : ℕ) (xs : List ℕ) → All (λ x. fold min a xs ≤ x) xs
All-fold_min a [] = All-nil (λ x. fold min a [] ≤ x)
All-fold_min a (x ∷ xs) =
    All-cons (λ y. fold min (min a x) xs ≤ y) x xs (omega (arith, fold_min-le (min a x) xs)) (All-fold_min (min a x) xs)

pub All-fold_max : (a : ℕ) (xs : List ℕ) → All (λ x. x ≤ fold max a xs) xs
All-fold_max a [] = All-nil (λ x. x ≤ fold max a [])
All-fold_max a (x ∷ xs) =
    All-cons (λ y. y ≤ fold max (max a x) xs) x xs (omega (arith, fold_max-ge (max a x) xs)) (All-fold_max (max a x) xs)
