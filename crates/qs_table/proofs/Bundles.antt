-- The seats of all bundles, where bundles change.
use Rattle.std.proofs.Common.{◌≡◌, ◌≢◌, ℕ, suc, ◌+◌, ◌⊎◌, List, [], ◌∷◌, ◌++◌, length, set, take, drop, sum_by, Contains, refl, sym, ap, ◌∙◌, subst, inl, inr, arith}
use Rattle.std.proofs.lemmas.List.{take-append-drop}
use Rattle.std.proofs.lemmas.List.Sums.{sum_by-append, sum_by-cons, sum_by_push}
use Rattle.std.proofs.lemmas.Option.{slice_get_within}
use mathlib.Core.Option.{some}
use lib.ListN.{get_elem?}
use Rattle.atomic_table.proofs.Lists.{at_set, at_snoc, set_else}
use Rattle.lists.proofs.Counts.{one_if, one_if-same}
use Rattle.lists.proofs.Elements.{Contains-append, Contains-flat_map, Contains-head, Contains-nil, only}
use Rattle.lists.proofs.Places.{Contains-from_slice_get}
use Rattle.lists.proofs.Sums.{share-le}
use Rattle.qs_core.specs.Core.{Core}
use Rattle.qs_table.specs.declared.view.Bundle.{Bundle}
use Rattle.qs_table.specs.declared.view.SeatView.{SeatView}
use Rattle.qs_table.specs.Rule.{AreSeats}
use Rattle.qs_table.specs.Views.{alone, no_seats, seats_in}
use Rattle.qs_table.specs.inner.Plays.{first_alone, pair, together, without_first}
use Rattle.lists.proofs.Words.{get_from_elem, length_is_sum, sum_set}

-- one seat knows something else
pub record Changes (before after : List SeatView) (v w : SeatView) : Type 0 where
  pub here : Contains before v
  pub sums : (f : SeatView → ℕ) → sum_by f after + f v ≡ sum_by f before + f w
  pub cases : (u : SeatView) → Contains after u → (w ≡ u) ⊎ (Contains before u × (u.place ≡ v.place → ⊥))

-- the same seats, in another order
pub record AreSame (before after : List SeatView) : Type 0 where
  pub sums : (f : SeatView → ℕ) → sum_by f after ≡ sum_by f before
  pub back : (u : SeatView) → Contains after u → Contains before u

-- so they are as many
pub same_length : (before after : List SeatView) → AreSame before after → length after ≡ length before
same_length before after same = length_is_sum after ∙ same.sums (λ (v : SeatView). 1) ∙ sym (length_is_sum before)

pub changed_length : (before after : List SeatView) (v w : SeatView) → Changes before after v w → length after ≡ length before
changed_length before after v w change =
    let a = length_is_sum before in
    let b = length_is_sum after in
    let c = change.sums (λ (v : SeatView). 1) in
    omega arith

module _ {P : Type 0} where
  -- a sum over the seats of all bundles
  pub sum_in : (f : SeatView → ℕ) (bs : List (Bundle P)) → sum_by f (seats_in bs) ≡ sum_by (λ (b : Bundle P). sum_by f b.seats) bs
  sum_in f [] = refl
  sum_in f (b ∷ bs) =
      sum_by-append f b.seats (seats_in bs)
      ∙ ap (λ (n : ℕ). sum_by f b.seats + n) (sum_in f bs)
      ∙ sym (sum_by-cons (λ (b : Bundle P). sum_by f b.seats) b bs)

  -- a seat stands in one of the bundles
  pub bundle_of : (bs : List (Bundle P)) (v : SeatView) → Contains (seats_in bs) v → (k : ℕ) × (b : Bundle P) × (get_elem? bs k ≡ some b) × Contains b.seats v
  bundle_of [] v c = absurd (Contains-nil v c)
  bundle_of (b ∷ bs) v c = elim ((Contains-append b.seats (seats_in bs) v).0 c) [
    | inl here ↦ (0, b, refl, here)
    | inr later ↦ let r = bundle_of bs v later in (suc r.0, r.1, r.2, r.3)
  ]

  pub in_bundles : (bs : List (Bundle P)) (k : ℕ) (b : Bundle P) (v : SeatView) → get_elem? bs k ≡ some b → Contains b.seats v → Contains (seats_in bs) v
  in_bundles bs k b v at c = Contains-flat_map (λ (b : Bundle P). b.seats) bs b v (Contains-from_slice_get bs k b (get_from_elem bs k b at)) c

  -- no two seats of different bundles have one place
  apart_in : (core : Core) (bs : List (Bundle P)) (k j : ℕ) (b c : Bundle P) (v w : SeatView) → AreSeats core (seats_in bs) → get_elem? bs k ≡ some b → get_elem? bs j ≡ some c → j ≢ k
      → Contains b.seats v → Contains c.seats w → w.place ≡ v.place → ⊥
  apart_in core bs k j b c v w seats at at' apart there there' same =
      let f : SeatView → ℕ = λ (u : SeatView). one_if u.place v.place in
      let others : List (Bundle P) = set bs k no_seats in
      let total = sum_set (λ (b : Bundle P). sum_by f b.seats) bs k b no_seats at in
      let before = sum_in f bs in
      let after = sum_in f others in
      let mine = share-le f b.seats v there in
      let theirs = share-le f (seats_in others) w (in_bundles others j c w (set_else bs k j no_seats apart ∙ at') there') in
      let one = one_if-same v.place v.place refl in
      let one' = one_if-same w.place v.place same in
      let once = seats.once v.place (slice_get_within core.views v.place v.holds (seats.each v (in_bundles bs k b v at there)).is) in
      absurd (omega arith)

  -- a seat alone in its bundle knows something else
  pub changes : (core : Core) (bs : List (Bundle P)) (k : ℕ) (plan : P) (v w : SeatView) → AreSeats core (seats_in bs) → get_elem? bs k ≡ some (alone plan v) → Changes (seats_in bs) (seats_in (set bs k (alone plan w))) v w
  changes core bs k plan v w seats at = record {
    here = in_bundles bs k (alone plan v) v at (Contains-head v []);
    sums = λ f.
        let total = sum_set (λ (b : Bundle P). sum_by f b.seats) bs k (alone plan v) (alone plan w) at in
        let before = sum_in f bs in
        let after = sum_in f (set bs k (alone plan w)) in
        omega arith;
    cases = λ u c.
        let m = bundle_of (set bs k (alone plan w)) u c in
        elim (at_set bs k m.0 (alone plan w) m.1 m.2) [
          | inl p ↦ inl (only w u (subst (λ (b : Bundle P). Contains b.seats u) (sym p.1) m.3))
          | inr p ↦ inr (in_bundles bs m.0 m.1 u p.1 m.3, apart_in core bs k m.0 (alone plan v) m.1 v u seats at p.1 p.0 (Contains-head v []) m.3)
        ];
  }

  halves : (f : SeatView → ℕ) (b : Bundle P) → sum_by f (first_alone b).seats + sum_by f (without_first b).seats ≡ sum_by f b.seats
  halves f b = sym (sum_by-append f (take 1 b.seats) (drop 1 b.seats)) ∙ ap (sum_by f) (take-append-drop 1 b.seats)

  in_half : (b : Bundle P) (u : SeatView) → Contains (first_alone b).seats u ⊎ Contains (without_first b).seats u → Contains b.seats u
  in_half b u c = subst (λ (vs : List SeatView). Contains vs u) (take-append-drop 1 b.seats) ((Contains-append (take 1 b.seats) (drop 1 b.seats) u).1 c)

  -- a bundle is cut in two
  pub same_split : (bs : List (Bundle P)) (k : ℕ) (b : Bundle P) → get_elem? bs k ≡ some b → AreSame (seats_in bs) (seats_in (set bs k (first_alone b) ++ without_first b ∷ []))
  same_split bs k b at = record {
    sums = λ f.
        let g : Bundle P → ℕ = λ (b : Bundle P). sum_by f b.seats in
        let total = sum_set g bs k b (first_alone b) at in
        let more = sum_by_push g (set bs k (first_alone b)) (without_first b) in
        let before = sum_in f bs in
        let after = sum_in f (set bs k (first_alone b) ++ without_first b ∷ []) in
        let both = halves f b in
        omega arith;
    back = λ u c.
        let m = bundle_of (set bs k (first_alone b) ++ without_first b ∷ []) u c in
        elim (at_snoc (set bs k (first_alone b)) (without_first b) m.1 m.0 m.2) [
          | inl e ↦ elim (at_set bs k m.0 (first_alone b) m.1 e) [
            | inl p ↦ in_bundles bs k b u at (in_half b u (inl (subst (λ (b : Bundle P). Contains b.seats u) (sym p.1) m.3)))
            | inr p ↦ in_bundles bs m.0 m.1 u p.1 m.3
          ]
          | inr e ↦ in_bundles bs k b u at (in_half b u (inr (subst (λ (b : Bundle P). Contains b.seats u) (sym e) m.3)))
        ];
  }

  -- two bundles become one
  pub same_joined : (bs : List (Bundle P)) (k j : ℕ) (b c : Bundle P) → j ≢ k → get_elem? bs k ≡ some b → get_elem? (set bs k (together b c)) j ≡ some c
      → AreSame (seats_in bs) (seats_in (set (set bs k (together b c)) j no_seats))
  same_joined bs k j b c apart at at' =
      let both : List (Bundle P) = set bs k (together b c) in
      let was : get_elem? bs j ≡ some c = sym (set_else bs k j (together b c) apart) ∙ at' in
      record {
        sums = λ f.
            let g : Bundle P → ℕ = λ (b : Bundle P). sum_by f b.seats in
            let total = sum_set g bs k b (together b c) at in
            let less = sum_set g both j c no_seats at' in
            let before = sum_in f bs in
            let after = sum_in f (set both j no_seats) in
            let more = sum_by-append f b.seats c.seats in
            omega arith;
        back = λ u i.
            let m = bundle_of (set both j no_seats) u i in
            elim (at_set both j m.0 no_seats m.1 m.2) [
              | inl p ↦ absurd (Contains-nil u (subst (λ (b : Bundle P). Contains b.seats u) (sym p.1) m.3))
              | inr p ↦ elim (at_set bs k m.0 (together b c) m.1 p.1) [
                | inl q ↦ elim ((Contains-append b.seats c.seats u).0 (subst (λ (b : Bundle P). Contains b.seats u) (sym q.1) m.3)) [
                  | inl first ↦ in_bundles bs k b u at first
                  | inr second ↦ in_bundles bs j c u was second
                ]
                | inr q ↦ in_bundles bs m.0 m.1 u q.1 m.3
              ]
            ];
      }

  -- two seats in one bundle have two places
  pub pair_apart : (core : Core) (bs : List (Bundle P)) (k : ℕ) (plan : P) (v w : SeatView) → AreSeats core (seats_in bs) → get_elem? bs k ≡ some (pair plan v w) → v.place ≡ w.place → ⊥
  pair_apart core bs k plan v w seats at same =
      let f : SeatView → ℕ = λ (u : SeatView). one_if u.place v.place in
      let few = share-le (λ (b : Bundle P). sum_by f b.seats) bs (pair plan v w) (Contains-from_slice_get bs k (pair plan v w) (get_from_elem bs k (pair plan v w) at)) in
      let all = sum_in f bs in
      let first = sum_by-cons f v (w ∷ []) in
      let second = sum_by-cons f w [] in
      let one = one_if-same v.place v.place refl in
      let one' = one_if-same w.place v.place (sym same) in
      let once = seats.once v.place (slice_get_within core.views v.place v.holds (seats.each v (in_bundles bs k (pair plan v w) v at (Contains-head v (w ∷ [])))).is) in
      absurd (omega arith)
