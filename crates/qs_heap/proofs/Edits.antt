-- A heap in which an entry was added at the end, or another replaced by the last.
use Rattle.std.proofs.Common.{◌≡◌, ℕ, ◌+◌, ◌<◌, ◌≤◌, ◌≢◌, ◌-◌, List, [], ◌∷◌, ◌++◌, length, get_or, take, drop, refl, sym, ap, ◌∙◌, subst, arith}
use Rattle.std.specs.Prelude.{IsPermutation}
use Rattle.std.specs.List.{slice_set, swap_remove}
use Rattle.std.proofs.lemmas.List.{get_or_default, get_or_read}
use Rattle.std.proofs.lemmas.List.Sorted.{IsPermutation-sym, IsPermutation-cons, IsPermutation-to_front, IsPermutation-trans, IsPermutation-swap_remove, length_permutation}
use Rattle.lists.proofs.Elements.{written_back}
use Rattle.qs_heap.specs.declared.entry.Entry.{Entry}
use Rattle.qs_heap.specs.Entries.{entry_at, entry_of}
use Rattle.qs_heap.specs.Heap.{IsHeap}
use Rattle.qs_heap.specs.Moves.{MovesInLine}
use Rattle.qs_heap.specs.inner.Sift.{IsHeapBesides}
use Rattle.qs_heap.proofs.Orders.{chain}
use Rattle.qs_heap.proofs.Sifts.{like}

-- a reordered list is as long
reordered_long : (items lent new : List Entry) → lent ≡ items → IsPermutation lent new → length new ≡ length items
reordered_long items lent new same moved = omega (arith, length_permutation lent new moved, ap length same)

-- an entry was put last, and the list then only reordered
pub pushed : (entry : Entry) (xs old items lent new : List Entry) (n : ℕ) → xs ≡ old → items ≡ xs ++ entry ∷ [] → lent ≡ items → length items ≡ n → IsPermutation lent new → IsPermutation (entry ∷ old) (take n (new ++ drop (length new) items))
pushed entry xs old items lent new n is put same long moved =
    let P : List Entry → Type 0 = λ ys. IsPermutation ys new in
    let from : IsPermutation (xs ++ entry ∷ []) new = subst P (same ∙ put) moved in
    let front = IsPermutation-sym (xs ++ entry ∷ []) (entry ∷ xs) (IsPermutation-to_front xs entry) in
    let all = IsPermutation-trans (entry ∷ xs) (xs ++ entry ∷ []) new front from in
    let Q : List Entry → Type 0 = λ ys. IsPermutation (entry ∷ ys) new in
    let R : List Entry → Type 0 = λ ys. IsPermutation (entry ∷ old) ys in
    subst R (sym (written_back n items new (sym long) (reordered_long items lent new same moved))) (subst Q is all)

-- and only in one line
pub pushed_moves : (entry : Entry) (xs old items lent new : List Entry) (last n : ℕ) → xs ≡ old → last ≡ length xs → items ≡ xs ++ entry ∷ [] → lent ≡ items → length items ≡ n → IsPermutation lent new → MovesInLine lent new last
    → MovesInLine (old ++ entry ∷ []) (take n (new ++ drop (length new) items)) (length old)
pushed_moves entry xs old items lent new last n is end put same long moved line =
    let first : MovesInLine (xs ++ entry ∷ []) new (length xs) = subst (λ k. MovesInLine (xs ++ entry ∷ []) new k) end (subst (λ ys. MovesInLine ys new last) (same ∙ put) line) in
    let all : MovesInLine (old ++ entry ∷ []) new (length old) = subst (λ ys. MovesInLine (ys ++ entry ∷ []) new (length ys)) is first in
    subst (λ ys. MovesInLine (old ++ entry ∷ []) ys (length old)) (sym (written_back n items new (sym long) (reordered_long items lent new same moved))) all

-- the last entry took the place of another
module _ (xs ys : List Entry) (place : ℕ) (heap : IsHeap xs) (inside : place < length xs) (long : length ys + 1 ≡ length xs) (kept : (k : ℕ) → k ≢ place → k + 1 < length xs → entry_at ys k ≡ entry_at xs k) where
  pub replaced : IsHeapBesides ys place
  replaced = record {
    others = λ above below right within u v.
        let low : above + 1 < length xs = let r = right.from in omega arith in
        like _ _ _ _ (kept below v (omega arith)) (kept above u low) (heap.ordered above below right (omega arith));
    across = λ above below over under within.
        let first = over.from in
        let second = under.from in
        let lower = heap.ordered place below under (omega arith) in
        let upper = heap.ordered above place over inside in
        like _ _ _ _ (kept below (omega arith) (omega arith)) (kept above (omega arith) (omega arith)) (chain (entry_at xs above) (entry_at xs place) (entry_at xs below) upper lower);
  }

  pub cut : length ys ≤ place → IsHeap ys
  cut last = record {
    ordered = λ above below right within.
        let first = right.from in
        like _ _ _ _ (kept below (omega arith) (omega arith)) (kept above (omega arith) (omega arith)) (heap.ordered above below right (omega arith));
  }

-- which default a removal reads by doesn't matter
any_default : (xs : List Entry) (place : ℕ) (entry : Entry) → place < length xs → swap_remove xs place entry ≡ swap_remove xs place (entry_of 0 0)
any_default xs place entry inside =
    ap (λ (last : Entry). take (length xs - 1) (slice_set xs place last)) (get_or_default xs (length xs - 1) entry (entry_of 0 0) (omega arith))

-- an entry and those that are left without it
pub removed : (entry : Entry) (xs old items : List Entry) (place : ℕ) → xs ≡ old → place < length xs → entry ≡ get_or xs place entry → items ≡ swap_remove xs place entry → IsPermutation old (entry_at old place ∷ items)
removed entry xs old items place is inside read left =
    let P : Entry → Type 0 = λ e. IsPermutation xs (e ∷ items) in
    let Q : List Entry → Type 0 = λ ys. IsPermutation ys (entry_at ys place ∷ items) in
    let R : List Entry → Type 0 = λ ys. IsPermutation xs (entry ∷ ys) in
    let whole = subst R (sym left) (IsPermutation-swap_remove xs place entry inside read) in
    subst Q is (subst P (get_or_read xs place entry inside read (entry_of 0 0)) whole)

-- these are then only reordered
pub removed_moved : (entry : Entry) (xs old items lent new : List Entry) (place n : ℕ) → xs ≡ old → place < length xs → entry ≡ get_or xs place entry → items ≡ swap_remove xs place entry → lent ≡ items → length items ≡ n → IsPermutation lent new → IsPermutation old (entry_at old place ∷ take n (new ++ drop (length new) items))
removed_moved entry xs old items lent new place n is inside read left same long moved =
    let P : List Entry → Type 0 = λ ys. IsPermutation ys new in
    let Q : List Entry → Type 0 = λ ys. IsPermutation old (entry_at old place ∷ ys) in
    let first = entry_at old place in
    let reordered = IsPermutation-cons first items new (subst P same moved) in
    let all = IsPermutation-trans old (first ∷ items) (first ∷ new) (removed entry xs old items place is inside read left) reordered in
    subst Q (sym (written_back n items new (sym long) (reordered_long items lent new same moved))) all

-- in one line
pub removed_moves : (entry : Entry) (xs old items lent new : List Entry) (place n : ℕ) → xs ≡ old → place < length xs → items ≡ swap_remove xs place entry → lent ≡ items → length items ≡ n → IsPermutation lent new
    → MovesInLine lent new place → MovesInLine (swap_remove old place (entry_of 0 0)) (take n (new ++ drop (length new) items)) place
removed_moves entry xs old items lent new place n is inside left same long moved line =
    let first : MovesInLine (swap_remove xs place (entry_of 0 0)) new place = subst (λ ys. MovesInLine ys new place) (same ∙ left ∙ any_default xs place entry inside) line in
    let all : MovesInLine (swap_remove old place (entry_of 0 0)) new place = subst (λ ys. MovesInLine (swap_remove ys place (entry_of 0 0)) new place) is first in
    subst (λ ys. MovesInLine (swap_remove old place (entry_of 0 0)) ys place) (sym (written_back n items new (sym long) (reordered_long items lent new same moved))) all

-- or not at all
pub removed_stays : (entry : Entry) (xs old items : List Entry) (place : ℕ) → xs ≡ old → place < length xs → items ≡ swap_remove xs place entry → MovesInLine (swap_remove old place (entry_of 0 0)) items place
removed_stays entry xs old items place is inside left = record {
  lowest = place;
  through = record { steps = 0; is = refl };
  others = λ other off. ap (λ ys. entry_at ys other) (left ∙ any_default xs place entry inside ∙ ap (λ ys. swap_remove ys place (entry_of 0 0)) is);
}
