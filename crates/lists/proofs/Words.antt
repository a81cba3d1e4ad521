-- Lists as the shared words read them.
use Rattle.std.proofs.Common.{◌≡◌, ℕ, zero, suc, ◌+◌, ◌<◌, List, [], ◌∷◌, length, get_or, set, slice_get, slice_index, slice_set, sum_by, Some, refl, sym, ap, ◌∙◌, arith}
use Rattle.std.proofs.lemmas.List.Sums.{sum_by-cons, sum_by-set}
use Rattle.std.proofs.lemmas.Option.{slice_get_within, get_or_from_slice_get}
use mathlib.Core.Option.{some, some-injective, some-ne-none}
use lib.ListN.{get_elem?}

module _ {X : Type 0} where
  -- an element, as std reads it, and its place
  pub get_from_elem : (xs : List X) (i : ℕ) (x : X) → get_elem? xs i ≡ some x → slice_get xs i ≡ Some x
  get_from_elem [] i x e = absurd (some-ne-none x (sym e))
  get_from_elem (y ∷ ys) zero x e = ap Some (some-injective y x e)
  get_from_elem (y ∷ ys) (suc i) x e = get_from_elem ys i x e

  pub elem_within : (xs : List X) (i : ℕ) (x : X) → get_elem? xs i ≡ some x → i < length xs
  elem_within [] i x e = absurd (some-ne-none x (sym e))
  elem_within (y ∷ ys) zero x e = omega arith
  elem_within (y ∷ ys) (suc i) x e = let r = elem_within ys i x e in omega arith

  pub elem_or : (xs : List X) (i : ℕ) (x : X) → get_elem? xs i ≡ some x → get_or xs i x ≡ x
  elem_or [] i x e = refl
  elem_or (y ∷ ys) zero x e = some-injective y x e
  elem_or (y ∷ ys) (suc i) x e = elem_or ys i x e

  pub elem_at : (xs : List X) (i : ℕ) (d : X) → i < length xs → get_elem? xs i ≡ some (get_or xs i d)
  elem_at [] i d l = absurd (let none : i < 0 = l in omega arith)
  elem_at (y ∷ ys) zero d l = refl
  elem_at (y ∷ ys) (suc i) d l = elem_at ys i d (omega arith)

  pub elem_from_get : (xs : List X) (i : ℕ) (x : X) → slice_get xs i ≡ Some x → get_elem? xs i ≡ some x
  elem_from_get xs i x e = elem_at xs i x (slice_get_within xs i x e) ∙ ap some (get_or_from_slice_get xs i x x e)

  -- a sum after one element is changed
  pub sum_set : (f : X → ℕ) (xs : List X) (i : ℕ) (x y : X) → get_elem? xs i ≡ some x → sum_by f (set xs i y) + f x ≡ sum_by f xs + f y
  sum_set f xs i x y e =
      let r = sum_by-set f xs i y x (elem_within xs i x e) in
      let p : f (get_or xs i x) ≡ f x = ap f (elem_or xs i x e) in
      omega arith

  -- a list is as long as ones add up to
  pub length_is_sum : (xs : List X) → length xs ≡ sum_by (λ (x : X). 1) xs
  length_is_sum [] = refl
  length_is_sum (x ∷ xs) = let r = length_is_sum xs in let s = sum_by-cons (λ (x : X). 1) x xs in omega arith

-- a word that is written over by itself
pub same_word : (ws : List ℕ) (i : ℕ) → slice_set ws i (slice_index ws i) ≡ ws
same_word [] i = refl
same_word (w ∷ ws) zero = refl
same_word (w ∷ ws) (suc i) = ap (λ (vs : List ℕ). w ∷ vs) (same_word ws i)
