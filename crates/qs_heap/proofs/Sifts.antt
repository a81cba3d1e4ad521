-- The heap's order, where one entry moves up or down.
use Rattle.std.proofs.Common.{◌≡◌, ℕ, zero, suc, ◌+◌, ◌*◌, ◌<◌, ◌≤◌, ◌≢◌, true, false, List, length, refl, sym, ap, ◌∙◌, subst, inl, inr, arith}
use Rattle.std.proofs.lemmas.Bool.{cases_eq}
use Rattle.std.specs.Prelude.{IsPermutation}
use Rattle.std.specs.List.{SwappedAt}
use Rattle.std.proofs.lemmas.List.Sorted.{IsPermutation-refl, IsPermutation-trans}
use Rattle.qs_heap.specs.declared.entry.Entry.{Entry}
use Rattle.qs_heap.specs.Entries.{entry_at, entry_of, goes_before}
use Rattle.qs_heap.specs.Heap.{IsHeap, IsRightBelow}
use Rattle.qs_heap.specs.Moves.{IsInLine, MovesInLine, place_above, place_up}
use Rattle.qs_heap.specs.inner.Sift.{IsHeapBesides, IsBeforeThoseBelow, GoesBeforeThatAbove, IsBehindThatAbove, IsFirstBelow}
use Rattle.qs_heap.proofs.Orders.{one_way, chain}

-- the order of two entries, told of equal ones
pub like : (a b x y : Entry) → a ≡ x → b ≡ y → goes_before x y ≡ false → goes_before a b ≡ false
like a b x y p q h = (λ k. goes_before (p k) (q k)) ∙ h

-- a list in which no entry is out of order any more
pub closes : (xs : List Entry) (place : ℕ) → IsHeapBesides xs place → IsBeforeThoseBelow xs place → IsBehindThatAbove xs place → IsHeap xs
closes xs place besides before behind = record {
  ordered = λ above below right inside. elim (cases_eq above place) [
    | inl e ↦
        let there : IsRightBelow place below = record { from = omega arith; to = omega arith } in
        like _ _ _ _ refl (ap (entry_at xs) e) (before.none below there inside)
    | inr u ↦ elim (cases_eq below place) [
      | inl e ↦
          let there : IsRightBelow above place = record { from = omega arith; to = omega arith } in
          like _ _ _ _ (ap (entry_at xs) e) refl (behind.none above there)
      | inr v ↦ besides.others above below right inside u v
    ]
  ];
}

-- what two exchanged entries leave
record AreExchanged (xs ys : List Entry) (a b : ℕ) : Type 0 where
  first : entry_at ys a ≡ entry_at xs b
  second : entry_at ys b ≡ entry_at xs a
  rest : (k : ℕ) → k ≢ a → k ≢ b → entry_at ys k ≡ entry_at xs k

exchanged : (xs ys : List Entry) (a b : ℕ) → SwappedAt xs ys a b → AreExchanged xs ys a b
exchanged xs ys a b h = record {
  first = h.0 (entry_of 0 0);
  second = h.1 (entry_of 0 0);
  rest = λ k u v. h.2 k (entry_of 0 0) u v;
}

module _ (xs ys : List Entry) (at above : ℕ) (right : IsRightBelow above at) (inside : at < length xs) (long : length ys ≡ length xs) (s : AreExchanged xs ys at above) (h : IsHeapBesides xs at) (t : goes_before (entry_at xs at) (entry_at xs above) ≡ true) where
  risen_before : IsBeforeThoseBelow ys above
  risen_before = record {
    none = λ below there within. elim (cases_eq below at) [
      | inl e ↦ like _ _ _ _ (ap (entry_at ys) e ∙ s.first) s.second (one_way (entry_at xs at) (entry_at xs above) t)
      | inr u ↦
          let other : below ≢ above = omega arith in
          let ordered = h.others above below there (omega arith) (omega arith) u in
          like _ _ _ _ (s.rest below u other) s.second (chain (entry_at xs at) (entry_at xs above) (entry_at xs below) (one_way (entry_at xs at) (entry_at xs above) t) ordered)
    ];
  }

  risen_across : (top below : ℕ) → IsRightBelow top above → IsRightBelow above below → below < length ys → goes_before (entry_at ys below) (entry_at ys top) ≡ false
  risen_across top below over under within =
      let topmost = s.rest top (omega arith) (omega arith) in
      let upper = h.others top above over (omega arith) (omega arith) (omega arith) in
      elim (cases_eq below at) [
        | inl e ↦ like _ _ _ _ (ap (entry_at ys) e ∙ s.first) topmost upper
        | inr u ↦
            let ordered = h.others above below under (omega arith) (omega arith) u in
            like _ _ _ _ (s.rest below u (omega arith)) topmost (chain (entry_at xs top) (entry_at xs above) (entry_at xs below) upper ordered)
      ]

  risen_besides : IsHeapBesides ys above
  risen_besides = record {
    others = λ top below under within u v. elim (cases_eq top at) [
      | inl e ↦
          let there : IsRightBelow at below = record { from = omega arith; to = omega arith } in
          like _ _ _ _ (s.rest below (omega arith) v) (ap (entry_at ys) e ∙ s.first) (h.across above below right there (omega arith))
      | inr w ↦
          let other : below ≢ at = omega arith in
          like _ _ _ _ (s.rest below other v) (s.rest top w u) (h.others top below under (omega arith) w other)
    ];
    across = risen_across;
  }

module _ (xs ys : List Entry) (at first : ℕ) (f : IsFirstBelow xs at first) (long : length ys ≡ length xs) (s : AreExchanged xs ys at first) (h : IsHeapBesides xs at) (t : goes_before (entry_at xs first) (entry_at xs at) ≡ true) where
  sunk_behind : IsBehindThatAbove ys first
  sunk_behind = record {
    none = λ above there.
        let right = f.below in
        let e : above ≡ at = omega arith in
        like _ _ _ _ s.second (ap (entry_at ys) e ∙ s.first) (one_way (entry_at xs first) (entry_at xs at) t);
  }

  sunk_across : (above below : ℕ) → IsRightBelow above first → IsRightBelow first below → below < length ys → goes_before (entry_at ys below) (entry_at ys above) ≡ false
  sunk_across above below over under within =
      let right = f.below in
      let e : above ≡ at = omega arith in
      let ordered = h.others first below under (omega arith) (omega arith) (omega arith) in
      like _ _ _ _ (s.rest below (omega arith) (omega arith)) (ap (entry_at ys) e ∙ s.first) ordered

  sunk_others : (above below : ℕ) → IsRightBelow above below → below < length ys → above ≢ first → below ≢ first → goes_before (entry_at ys below) (entry_at ys above) ≡ false
  sunk_others above below under within u v = elim (cases_eq above at) [
    | inl e ↦
        let there : IsRightBelow at below = record { from = omega arith; to = omega arith } in
        like _ _ _ _ (s.rest below (omega arith) v) (ap (entry_at ys) e ∙ s.first) (f.none below there (omega arith))
    | inr w ↦ elim (cases_eq below at) [
      | inl e ↦
          let there : IsRightBelow above at = record { from = omega arith; to = omega arith } in
          like _ _ _ _ (ap (entry_at ys) e ∙ s.first) (s.rest above w u) (h.across above first there f.below f.inside)
      | inr z ↦ like _ _ _ _ (s.rest below z v) (s.rest above w u) (h.others above below under (omega arith) w z)
    ]
  ]

  sunk_besides : IsHeapBesides ys first
  sunk_besides = record { others = sunk_others; across = sunk_across }

-- lines of places: each begins with itself, and grows at both ends
in_line : (place : ℕ) → IsInLine place place
in_line place = record { steps = 0; is = refl }

up_once_more : (steps low : ℕ) → place_up (suc steps) low ≡ place_above (place_up steps low)
up_once_more zero low = refl
up_once_more (suc steps) low = up_once_more steps (place_above low)

line_above : (place low : ℕ) → IsInLine place low → IsInLine (place_above place) low
line_above place low l = record { steps = suc l.steps; is = up_once_more l.steps low ∙ ap place_above l.is }

line_below : (place low lower : ℕ) → place_above lower ≡ low → IsInLine place low → IsInLine place lower
line_below place low lower e l = record { steps = suc l.steps; is = ap (place_up l.steps) e ∙ l.is }

-- the entry that began at a place of old has come up to this place of new
pub record IsRising (old new : List Entry) (place at : ℕ) : Type 0 where
  pub inside : at < length new
  pub besides : IsHeapBesides new at
  pub before : IsBeforeThoseBelow new at
  pub same : IsPermutation old new
  pub line : IsInLine at place
  pub others : (other : ℕ) → (IsInLine other place → ⊥) → entry_at new other ≡ entry_at old other

pub rising_begins : (xs : List Entry) (at : ℕ) → at < length xs → IsHeapBesides xs at → IsBeforeThoseBelow xs at → IsRising xs xs at at
rising_begins xs at inside besides before = record {
  inside = inside;
  besides = besides;
  before = before;
  same = IsPermutation-refl xs;
  line = in_line at;
  others = λ other off. refl;
}

pub rises : (old xs ys : List Entry) (place at : ℕ) → IsRising old xs place at → GoesBeforeThatAbove xs at → SwappedAt xs ys at (place_above at) → length ys ≡ length xs → IsPermutation xs ys
    → IsRising old ys place (place_above at)
rises old xs ys place at h up swapped long moved =
    let inside = h.inside in
    let some = up.some in
    let right : IsRightBelow (place_above at) at = record { from = omega arith; to = omega arith } in
    let s = exchanged xs ys at (place_above at) swapped in
    let above_in_line = line_above at place h.line in
    record {
      inside = omega arith;
      besides = risen_besides xs ys at (place_above at) right h.inside long s h.besides up.before;
      before = risen_before xs ys at (place_above at) right h.inside long s h.besides up.before;
      same = IsPermutation-trans old xs ys h.same moved;
      line = above_in_line;
      others = λ other off. s.rest other (λ e. off (subst (λ k. IsInLine k place) (sym e) h.line)) (λ e. off (subst (λ k. IsInLine k place) (sym e) above_in_line)) ∙ h.others other off;
    }

pub rising_ends : (old xs : List Entry) (place at : ℕ) → IsRising old xs place at → IsBehindThatAbove xs at → IsHeap xs
rising_ends old xs place at h behind = closes xs at h.besides h.before behind

pub rising_moves : (old xs : List Entry) (place at : ℕ) → IsRising old xs place at → MovesInLine old xs place
rising_moves old xs place at h = record { lowest = place; through = in_line place; others = h.others }

-- the entry that began at a place of old has come down to this place of new
pub record IsSinking (old new : List Entry) (place at : ℕ) : Type 0 where
  pub inside : at < length new
  pub besides : IsHeapBesides new at
  pub behind : IsBehindThatAbove new at
  pub same : IsPermutation old new
  pub line : IsInLine place at
  pub others : (other : ℕ) → (IsInLine other at → ⊥) → entry_at new other ≡ entry_at old other

pub sinking_begins : (xs : List Entry) (at : ℕ) → at < length xs → IsHeapBesides xs at → IsBehindThatAbove xs at → IsSinking xs xs at at
sinking_begins xs at inside besides behind = record {
  inside = inside;
  besides = besides;
  behind = behind;
  same = IsPermutation-refl xs;
  line = in_line at;
  others = λ other off. refl;
}

pub sinks : (old xs ys : List Entry) (place at first : ℕ) → IsSinking old xs place at → IsFirstBelow xs at first → goes_before (entry_at xs first) (entry_at xs at) ≡ true → SwappedAt xs ys at first → length ys ≡ length xs
    → IsPermutation xs ys → IsSinking old ys place first
sinks old xs ys place at first h f t swapped long moved =
    let inside = f.inside in
    let right = f.below in
    let up : place_above first ≡ at = omega arith in
    let s = exchanged xs ys at first swapped in
    record {
      inside = omega arith;
      besides = sunk_besides xs ys at first f long s h.besides t;
      behind = sunk_behind xs ys at first f long s h.besides t;
      same = IsPermutation-trans old xs ys h.same moved;
      line = line_below place at first up h.line;
      others = λ other off.
          s.rest other (λ e. off (subst (λ k. IsInLine k first) (sym e) (line_below at at first up (in_line at)))) (λ e. off (subst (λ k. IsInLine k first) (sym e) (in_line first)))
          ∙ h.others other (λ l. off (line_below other at first up l));
    }

-- no entry stands right below, or the first of them stays there
pub sinking_ends_last : (old xs : List Entry) (place at : ℕ) → IsSinking old xs place at → length xs ≤ 2 * at + 1 → IsHeap xs
sinking_ends_last old xs place at h last = closes xs at h.besides (record { none = λ below there inside. absurd (omega arith) }) h.behind

pub sinking_ends : (old xs : List Entry) (place at first : ℕ) → IsSinking old xs place at → IsFirstBelow xs at first → goes_before (entry_at xs first) (entry_at xs at) ≡ false → IsHeap xs
sinking_ends old xs place at first h f stays =
    closes xs at h.besides (record { none = λ below there inside. chain (entry_at xs at) (entry_at xs first) (entry_at xs below) stays (f.none below there inside) }) h.behind

pub sinking_moves : (old xs : List Entry) (place at : ℕ) → IsSinking old xs place at → MovesInLine old xs place
sinking_moves old xs place at h = record { lowest = at; through = h.line; others = h.others }

-- an entry that goes before the one above it goes before those below it
pub before_from_above : (xs : List Entry) (place : ℕ) → IsHeapBesides xs place → GoesBeforeThatAbove xs place → IsBeforeThoseBelow xs place
before_from_above xs place h up =
    let above = entry_at xs (place_above place) in
    let here = entry_at xs place in
    let some = up.some in
    let right : IsRightBelow (place_above place) place = record { from = omega arith; to = omega arith } in
    record {
      none = λ below there inside.
          let across = h.across (place_above place) below right there inside in
          chain here above (entry_at xs below) (one_way here above up.before) across;
    }
