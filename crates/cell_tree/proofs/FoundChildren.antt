-- The children of a cell, found run by run.
use Rattle.std.proofs.Common.{◌≡◌, ℕ, ◌+◌, ◌-◌, ◌<◌, ◌≤◌, List, [], ◌∷◌, ◌++◌, length, set, get_or, sym, ap, ◌∙◌, subst, ◌⊎◌, inl, inr, length-append, append_assoc, arith}
use Rattle.std.specs.List.{Contains, slice_range}
use Rattle.std.specs.List.Sorted.{IsStrictlyIncreasing}
use Rattle.std.proofs.lemmas.Bool.{cases_lt, cases_eq, cases_order}
use Rattle.std.proofs.lemmas.List.{append-nil, get_or_append_left, get_or_push, get_or-set_same, get_or-set_other, length-set, length_push, get_or_default}
use Rattle.std.proofs.lemmas.List.Elements.{Contains-append_left, Contains-push, Contains-push_cases}
use Rattle.cell_tree.specs.inner.Parts.{AreChildren, KnowsParents, AddsChildren, AreChildrenOf}
use Rattle.cell_tree.specs.Tree.{Made, cells_of, IsParent}
use Rattle.cell_tree.proofs.Family.{size_at, size_some, run_within, run_nested, parent_run, one_parent, child_from_closed, no_child_in_run}
use Rattle.lists.proofs.Places.{slice_range-append, slice_range-end}

-- a number above all others at the end
IsStrictlyIncreasing-push : (xs : List ℕ) (x : ℕ) → IsStrictlyIncreasing xs → ((y : ℕ) → Contains xs y → y < x) → IsStrictlyIncreasing (xs ++ x ∷ [])
IsStrictlyIncreasing-push xs x r h k l =
    elim (cases_lt (k + 1) (length xs)) [
      | inl m ↦
          let a = get_or_append_left xs (x ∷ []) 0 k (omega arith) in
          let b = get_or_append_left xs (x ∷ []) 0 (k + 1) m in
          let c = r k m in omega arith
      | inr m ↦
          let e : length xs ≡ k + 1 = omega (arith, length_push xs x) in
          let a = get_or_append_left xs (x ∷ []) 0 k (omega arith) in
          let b = get_or_push xs x 0 (k + 1) e in
          let c = h (get_or xs k 0) (k, omega arith, get_or_default xs k (get_or xs k 0) 0 (omega arith)) in omega arith
    ]

-- the cell's children before this number are found
pub record HasFound (made : Made) (cell child : ℕ) (old numbers parents : List ℕ) : Type 0 where
  pub begun : cell < child
  pub closed : (d : ℕ) → cell < d → d < child → d + size_at made d ≤ child
  pub found : List ℕ
  pub joined : numbers ≡ old ++ found
  pub rising : IsStrictlyIncreasing found
  pub children : (d : ℕ) → Contains found d → IsParent made cell d × (d < child)
  pub all : (d : ℕ) → IsParent made cell d → d < child → Contains found d
  pub long : length parents ≡ length (cells_of made)
  pub known : KnowsParents made cell parents
  pub noted : (d : ℕ) → IsParent made cell d → d < child → get_or parents d 0 ≡ cell

module _ (made : Made) (cell : ℕ) (within : cell < length (cells_of made)) (old : List ℕ) where
  -- before the first child
  pub HasFound-none : (parents : List ℕ) → length parents ≡ length (cells_of made) → KnowsParents made cell parents → HasFound made cell (cell + 1) old old parents
  HasFound-none parents l k = record {
    begun = omega arith;
    closed = λ d low high. absurd (omega arith);
    found = [];
    joined = sym (append-nil old);
    rising = λ k m. absurd (omega arith);
    children = λ d c. absurd (let m = c.1 in omega arith);
    all = λ d p m. absurd (let b = p.before in omega arith);
    long = l;
    known = k;
    noted = λ d p m. absurd (let b = p.before in omega arith);
  }

  module _ (child : ℕ) (numbers parents : List ℕ) (h : HasFound made cell child old numbers parents) where
    pub next_child : child < cell + size_at made cell → IsParent made cell child
    next_child l = child_from_closed made cell child within h.begun l h.closed

    pub next_fits : child < cell + size_at made cell → child + size_at made child ≤ cell + size_at made cell
    next_fits l = run_nested made cell child within (let b = h.begun in omega arith) l

    pub child_in : child < cell + size_at made cell → child < length (cells_of made)
    child_in l = let r = run_within made cell within in omega arith

    pub HasFound-more : (numbers' parents' : List ℕ) → child < cell + size_at made cell → numbers' ≡ numbers ++ child ∷ [] → parents' ≡ set parents child cell
        → HasFound made cell (child + size_at made child) old numbers' parents'
    HasFound-more numbers' parents' l e f = record {
      begun = let b = h.begun in omega arith;
      closed = closed;
      found = h.found ++ child ∷ [];
      joined = e ∙ ap (λ ns. ns ++ child ∷ []) h.joined ∙ append_assoc old h.found (child ∷ []);
      rising = IsStrictlyIncreasing-push h.found child h.rising (λ d c. (h.children d c).1);
      children = children;
      all = all;
      long = ap length f ∙ length-set parents child cell ∙ h.long;
      known = λ p d low q. let e' = ap (λ ps. get_or ps d 0) f in e' ∙ get_or-set_other parents child d cell 0 (λ same. absurd (other p d low q same)) ∙ h.known p d low q;
      noted = noted;
    }
      where
        step : IsParent made cell child
        step = next_child l

        closed : (d : ℕ) → cell < d → d < child + size_at made child → d + size_at made d ≤ child + size_at made child
        closed d low high =
            elim (cases_lt d child) [
              | inl m ↦ let c = h.closed d low m in omega arith
              | inr m ↦ run_nested made child d (child_in l) m high
            ]

        children : (d : ℕ) → Contains (h.found ++ child ∷ []) d → IsParent made cell d × (d < child + size_at made child)
        children d c =
            let s = size_some made child in
            elim (Contains-push_cases h.found child d c) [
              | inl w ↦ let q = h.children d w in (q.0, let m = q.1 in omega arith)
              | inr e ↦ (subst (IsParent made cell) e step, omega arith)
            ]

        all : (d : ℕ) → IsParent made cell d → d < child + size_at made child → Contains (h.found ++ child ∷ []) d
        all d p m =
            elim (cases_order d child) [
              | inl e ↦ subst (Contains (h.found ++ child ∷ [])) (sym e) (Contains-push h.found child)
              | inr o ↦ elim o [
                | inl b ↦ Contains-append_left h.found (child ∷ []) d (h.all d p b)
                | inr a ↦ absurd (no_child_in_run made cell child d step a m p)
              ]
            ]

        other : (p d : ℕ) → p < cell → IsParent made p d → d ≡ child → ⊥
        other p d low q same = let e = one_parent made p cell child (subst (IsParent made p) same q) step in omega arith

        noted : (d : ℕ) → IsParent made cell d → d < child + size_at made child → get_or parents' d 0 ≡ cell
        noted d p m =
            let e' = ap (λ ps. get_or ps d 0) f in
            elim (cases_order d child) [
              | inl same ↦ e' ∙ ap (λ k. get_or (set parents child cell) k 0) same ∙ get_or-set_same parents child cell 0 (let c = child_in l in omega (arith, h.long))
              | inr o ↦ elim o [
                | inl b ↦ e' ∙ get_or-set_other parents child d cell 0 (λ same. absurd (omega arith)) ∙ h.noted d p b
                | inr a ↦ absurd (no_child_in_run made cell child d step a m p)
              ]
            ]

    pub HasFound-all : cell + size_at made cell ≤ child → AddsChildren made cell old numbers
    HasFound-all l = record {
      added = h.found;
      joined = h.joined;
      are = record { rising = h.rising; just = λ d. (λ c. (h.children d c).0, λ p. h.all d p (let r = parent_run made cell d p in omega arith)) };
    }

    pub HasFound-parents : cell + size_at made cell ≤ child → KnowsParents made (cell + 1) parents
    HasFound-parents l p d low q =
        elim (cases_eq p cell) [
          | inl e ↦ let q' = subst (λ k. IsParent made k d) e q in h.noted d q' (let r = parent_run made cell d q' in omega arith) ∙ sym e
          | inr ne ↦ h.known p d (omega arith) q
        ]

-- one cell's children more
pub AreChildrenOf-more : (made : Made) (cell : ℕ) (starts starts' numbers numbers' : List ℕ) → AreChildrenOf made cell starts numbers → AddsChildren made cell numbers numbers'
    → starts' ≡ starts ++ length numbers' ∷ [] → AreChildrenOf made (cell + 1) starts' numbers'
AreChildrenOf-more made cell starts starts' numbers numbers' h a e = record {
  long = ap length e ∙ length_push starts (length numbers') ∙ ap (λ n. n + 1) h.long;
  last = last;
  ordered = λ k l. ordered k (cases_lt k cell) l;
  within = λ k l. within k (cases_lt k cell) l;
  are = λ k l. are k (cases_lt k cell) l;
}
  where
    longer : length numbers' ≡ length numbers + length a.added
    longer = ap length a.joined ∙ length-append numbers a.added

    kept : (k : ℕ) → k ≤ cell → get_or starts' k 0 ≡ get_or starts k 0
    kept k l = ap (λ ss. get_or ss k 0) e ∙ get_or_append_left starts (length numbers' ∷ []) 0 k (omega (arith, h.long))

    last : get_or starts' (cell + 1) 0 ≡ length numbers'
    last = ap (λ ss. get_or ss (cell + 1) 0) e ∙ get_or_push starts (length numbers') 0 (cell + 1) h.long

    ordered : (k : ℕ) → (k < cell) ⊎ (cell ≤ k) → k < cell + 1 → get_or starts' k 0 ≤ get_or starts' (k + 1) 0
    ordered k (inl m) l = omega (arith, kept k (omega arith), kept (k + 1) (omega arith), h.ordered k m)
    ordered k (inr m) l = let s : k ≡ cell = omega arith in rw s (omega (arith, kept cell (omega arith), last, h.last, longer))

    within : (k : ℕ) → (k < cell) ⊎ (cell ≤ k) → k < cell + 1 → get_or starts' (k + 1) 0 ≤ length numbers'
    within k (inl m) l = omega (arith, kept (k + 1) (omega arith), h.within k m, longer)
    within k (inr m) l = let s : k ≡ cell = omega arith in rw s (omega (arith, last))

    are : (k : ℕ) → (k < cell) ⊎ (cell ≤ k) → k < cell + 1 → AreChildren made k (slice_range numbers' (get_or starts' k 0) (get_or starts' (k + 1) 0))
    are k (inl m) l =
        let b = h.within k m in
        let same : slice_range numbers' (get_or starts' k 0) (get_or starts' (k + 1) 0) ≡ slice_range numbers (get_or starts k 0) (get_or starts (k + 1) 0) =
        ap (λ ns. slice_range ns (get_or starts' k 0) (get_or starts' (k + 1) 0)) a.joined
        ∙ ap (λ i. slice_range (numbers ++ a.added) i (get_or starts' (k + 1) 0)) (kept k (omega arith))
        ∙ ap (slice_range (numbers ++ a.added) (get_or starts k 0)) (kept (k + 1) (omega arith))
        ∙ slice_range-append numbers a.added (get_or starts k 0) (get_or starts (k + 1) 0) (h.ordered k m) b in
        subst (AreChildren made k) (sym same) (h.are k m)
    are k (inr m) l =
        let s : k ≡ cell = omega arith in
        let same : slice_range numbers' (get_or starts' cell 0) (get_or starts' (cell + 1) 0) ≡ a.added =
        ap (λ ns. slice_range ns (get_or starts' cell 0) (get_or starts' (cell + 1) 0)) a.joined
        ∙ slice_range-end numbers a.added (get_or starts' cell 0) (get_or starts' (cell + 1) 0) (kept cell (omega arith) ∙ h.last) (last ∙ ap length a.joined) in
        subst (λ c. AreChildren made c (slice_range numbers' (get_or starts' c 0) (get_or starts' (c + 1) 0))) (sym s) (subst (AreChildren made cell) (sym same) a.are)
