-- Lists of numbers that a function gives for the numbers from a first one on.
use Rattle.std.proofs.Common.{◌≡◌, ℕ, ◌+◌, ◌<◌, ◌↔◌, Bool, List, ◌++◌, Contains, length, map, slice_get, slice_index_or, Some, sym, ap, ◌∙◌, arith, []}
use Rattle.std.proofs.lemmas.List.{map-append}
use Rattle.std.proofs.lemmas.List.Kept.{AllPairs-from_increasing}
use Rattle.std.specs.List.{range_with_len}
use Rattle.lists.proofs.Ranges.{by_numbers, range-add}
use Rattle.lists.proofs.Places.{element_at}
use Rattle.lists.proofs.Rising.{Rises, same_rising}
use Rattle.task_graph.specs.inner.Parts.{AreJoined, IsJoinedAt}

module _ (f : ℕ → List ℕ) where
  -- the lists for m + n numbers are those for m and then for n
  map_numbers-add : (m n : ℕ) → map f (range_with_len 0 (m + n)) ≡ map f (range_with_len 0 m) ++ map f (range_with_len m n)
  map_numbers-add m n =
      let e : 0 + m ≡ m = omega arith in
      ap (map f) (range-add 0 m n ∙ ap (λ k. range_with_len 0 m ++ range_with_len k n) e) ∙ map-append f (range_with_len 0 m) (range_with_len m n)

  -- lists of the related elements are what the function gives, where each list that it gives rises and has the same numbers
  pub joined_are : {A B : Type 0} (relates : A → B → Bool) (each : List A) (others : List B) (first next : ℕ) (lists : List (List ℕ))
      → AreJoined relates each others next lists
      → ((k : ℕ) → Rises (f k))
      → ((k : ℕ) (a : A) → slice_get each k ≡ Some a → (number : ℕ) → Contains (f (first + k)) number ↔ IsJoinedAt relates a others next number)
      → lists ≡ map f (range_with_len first (length each))
  joined_are {A = A} relates each others first next lists are rise just =
      by_numbers f [] lists first (length each) are.one_each (λ k below. let w = element_at each k below in same_at k below w.0 w.1)
    where
      same_at : (k : ℕ) → k < length each → (x : A) → slice_get each k ≡ Some x → slice_index_or lists k [] ≡ f (first + k)
      same_at k below x s =
          same_rising (slice_index_or lists k []) (f (first + k)) (AllPairs-from_increasing (slice_index_or lists k []) (are.rising k below)) (rise (first + k))
          (λ z c. (just k x s z).1 ((are.just k z x s).0 c))
          (λ z c. (are.just k z x s).1 ((just k x s z).0 c))

  -- five parts one after another
  pub five_parts : (a b c d e : ℕ) (xs ys zs us vs : List (List ℕ)) → xs ≡ map f (range_with_len 0 a) → ys ≡ map f (range_with_len a b) → zs ≡ map f (range_with_len (a + b) c)
      → us ≡ map f (range_with_len (a + b + c) d) → vs ≡ map f (range_with_len (a + b + c + d) e) → xs ++ ys ++ zs ++ us ++ vs ≡ map f (range_with_len 0 (a + b + c + d + e))
  five_parts a b c d e xs ys zs us vs p q r s t =
      let two : xs ++ ys ≡ map f (range_with_len 0 (a + b)) = ap (λ ws. ws ++ ys) p ∙ ap (λ ws. map f (range_with_len 0 a) ++ ws) q ∙ sym (map_numbers-add a b) in
      let three : xs ++ ys ++ zs ≡ map f (range_with_len 0 (a + b + c)) =
      ap (λ ws. ws ++ zs) two ∙ ap (λ ws. map f (range_with_len 0 (a + b)) ++ ws) r ∙ sym (map_numbers-add (a + b) c) in
      let four : xs ++ ys ++ zs ++ us ≡ map f (range_with_len 0 (a + b + c + d)) =
      ap (λ ws. ws ++ us) three ∙ ap (λ ws. map f (range_with_len 0 (a + b + c)) ++ ws) s ∙ sym (map_numbers-add (a + b + c) d) in
      ap (λ ws. ws ++ vs) four ∙ ap (λ ws. map f (range_with_len 0 (a + b + c + d)) ++ ws) t ∙ sym (map_numbers-add (a + b + c + d) e)
