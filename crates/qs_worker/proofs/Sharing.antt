-- Tasks that wait for no other come into the ready lists, one after the other.
use Rattle.std.proofs.Common.{◌≡◌, ◌≢◌, ◌==◌, ◌&&◌, ℕ, ◌+◌, ◌%◌, ◌<◌, Bool, true, false, cond, List, [], ◌∷◌, ◌++◌, All, Contains, filter, get_or, length, set, slice_get, Option, Some, refl, sym, ap, ◌∙◌, subst, inl, inr, append-nil, eq-eqb, ne_eqb, length-set, arith}
use Rattle.std.specs.List.{range_with_len}
use Rattle.std.proofs.Math.Bool.{and-false}
use Rattle.std.proofs.Math.Nat.{mod-lt}
use Rattle.std.proofs.lemmas.Bool.{cases_eq}
use Rattle.std.proofs.lemmas.List.Elements.{filter-append}
use Rattle.std.proofs.lemmas.Option.{get_or_from_slice_get, same_Some, slice_get-get_or, slice_get_within}
use Rattle.lists.proofs.Elements.{Contains-from_filter}
use Rattle.lists.proofs.Places.{slice_get-set_other, slice_get-set_same}
use Rattle.lists.proofs.Ranges.{below_from_numbers, range_push}
use Rattle.qs_core.specs.Shape.{Shape, edges_into}
use Rattle.qs_worker.specs.Crews.{firsts_below}
use Rattle.qs_worker.specs.ReadyLists.{IsFirstTask}
use Rattle.qs_worker.specs.Turns.{WorkerView}
use Rattle.qs_worker.specs.inner.Sharing.{AreShared}

-- the test of the first tasks of a number
abbrev goes_to : Shape → ℕ → ℕ → ℕ → Bool
goes_to shape workers number task = (edges_into shape task == 0) && (task % workers == number)

module _ (shape : Shape) (workers number count : ℕ) where
  more : firsts_below shape workers number (count + 1) ≡ firsts_below shape workers number count ++ cond (goes_to shape workers number count) (count ∷ []) []
  more =
      let last : 0 + count ≡ count = omega arith in
      ap (filter (goes_to shape workers number)) (range_push 0 count ∙ ap (λ (k : ℕ). range_with_len 0 count ++ k ∷ []) last)
      ∙ filter-append (goes_to shape workers number) (range_with_len 0 count) (count ∷ [])

  -- one more first task of the number, or no more
  one_more : goes_to shape workers number count ≡ true → firsts_below shape workers number (count + 1) ≡ firsts_below shape workers number count ++ count ∷ []
  one_more goes = more ∙ ap (λ (b : Bool). firsts_below shape workers number count ++ cond b (count ∷ []) []) goes

  no_more : goes_to shape workers number count ≡ false → firsts_below shape workers number (count + 1) ≡ firsts_below shape workers number count
  no_more stays = more ∙ ap (λ (b : Bool). firsts_below shape workers number count ++ cond b (count ∷ []) []) stays ∙ append-nil (firsts_below shape workers number count)

  -- the next task isn't among them
  pub not_yet : Contains (firsts_below shape workers number count) count → ⊥
  not_yet c =
      let low = below_from_numbers count count (Contains-from_filter (goes_to shape workers number) (range_with_len 0 count) count c) in
      omega (arith, low)

-- a task of this plan is one of whatever plan the seat has
pub first_of : {P : Type 0} (shape : P → Shape) (task : ℕ) (of : P) (seat : Option P) → seat ≡ Some of → IsFirstTask (shape of) task → (plan : P) → seat ≡ Some plan → IsFirstTask (shape plan) task
first_of {P} shape task of seat is first plan is' = subst (λ (p : P). IsFirstTask (shape p) task) (same_Some of plan (sym is ∙ is')) first

module _ {P : Type 0} (shape : Shape) where
  pub none_shared : (workers : List (WorkerView P)) → All (λ (w : WorkerView P). w.ready ≡ []) workers → AreShared shape 0 workers workers
  none_shared workers none = record {
    as_many = refl;
    each = λ k w at.
        let empty : w.ready ≡ [] = subst (λ (v : WorkerView P). v.ready ≡ []) (get_or_from_slice_get workers k w w at) (none k w (slice_get_within workers k w at)) in
        at ∙ ap (λ (ready : List ℕ). Some (record w { ready = ready })) empty;
  }

  module _ (count : ℕ) (before now : List (WorkerView P)) (shared : AreShared shape count before now) where
    -- for a worker to which the next task doesn't go
    same_for : (k : ℕ) (w : WorkerView P) → slice_get before k ≡ Some w → goes_to shape (length before) k count ≡ false → slice_get now k ≡ Some (record w { ready = firsts_below shape (length before) k (count + 1) })
    same_for k w at stays = shared.each k w at ∙ ap (λ (ready : List ℕ). Some (record w { ready = ready })) (sym (no_more shape (length before) k count stays))

    -- a task that waits for others
    pub waits_shared : (waits : ℕ) → waits ≡ edges_into shape count → waits ≢ 0 → AreShared shape (count + 1) before now
    waits_shared waits same some = record {
      as_many = shared.as_many;
      each = λ k w at. same_for k w at (ap (λ (b : Bool). b && (count % length before == k)) (ne_eqb (edges_into shape count) 0 (λ none. some (same ∙ none))));
    }

    -- the worker at the place of the next task
    module _ (d : WorkerView P) (some : 0 < length before) where
      abbrev place : ℕ
      place = count % length now

      abbrev seen : WorkerView P
      seen = get_or now place d

      abbrev put : WorkerView P
      put = record seen { ready = seen.ready ++ count ∷ [] }

      at_place : place ≡ count % length before
      at_place = ap (λ (n : ℕ). count % n) shared.as_many

      inside : place < length now
      inside = mod-lt count (let same = shared.as_many in omega (arith, same, some))

      inside_before : place < length before
      inside_before = let same = shared.as_many in let low = inside in omega (arith, same, low)

      found : (w : WorkerView P) → slice_get before place ≡ Some w → seen ≡ record w { ready = firsts_below shape (length before) place count }
      found w at = same_Some seen (record w { ready = firsts_below shape (length before) place count }) (sym (slice_get-get_or now place d inside) ∙ shared.each place w at)

      was : seen ≡ record (get_or before place d) { ready = firsts_below shape (length before) place count }
      was = found (get_or before place d) (slice_get-get_or before place d inside_before)

      pub keeps_plan : (plan : P) → All (λ (w : WorkerView P). w.lock_seat.plan ≡ Some plan) before → seen.lock_seat.plan ≡ Some plan
      keeps_plan plan all = ap (λ (w : WorkerView P). w.lock_seat.plan) was ∙ all place d inside_before

      pub has_not : Contains seen.ready count → ⊥
      has_not c = not_yet shape (length before) place count (subst (λ (w : WorkerView P). Contains w.ready count) was c)

      -- it gets it
      pub one_shared : (waits : ℕ) → waits ≡ edges_into shape count → waits ≡ 0 → (new : WorkerView P) (after : List (WorkerView P)) → new ≡ put → after ≡ set now place new → AreShared shape (count + 1) before after
      one_shared waits same none new after more is = record {
        as_many = ap length is ∙ length-set now place new ∙ shared.as_many;
        each = λ k w at.
            elim (cases_eq k place) [
              | inl e ↦
                  subst (λ (j : ℕ). slice_get after j ≡ Some (record w { ready = firsts_below shape (length before) j (count + 1) })) (sym e)
                  (here w (subst (λ (j : ℕ). slice_get before j ≡ Some w) e at))
              | inr other ↦
                  ap (λ (xs : List (WorkerView P)). slice_get xs k) is
                  ∙ slice_get-set_other now place k new other
                  ∙ same_for k w at (ap (λ (b : Bool). (edges_into shape count == 0) && b) (ne_eqb (count % length before) k (λ q. other (sym (at_place ∙ q)))) ∙ and-false (edges_into shape count == 0))
            ];
      }
        where
          goes : goes_to shape (length before) place count ≡ true
          goes =
              ap (λ (b : Bool). b && (count % length before == place)) (eq-eqb (edges_into shape count) 0 (sym same ∙ none))
              ∙ eq-eqb (count % length before) place (sym at_place)

          here : (w : WorkerView P) → slice_get before place ≡ Some w → slice_get after place ≡ Some (record w { ready = firsts_below shape (length before) place (count + 1) })
          here w at =
              ap (λ (xs : List (WorkerView P)). slice_get xs place) is
              ∙ slice_get-set_same now place new inside
              ∙ ap Some more
              ∙ ap (λ (v : WorkerView P). Some (record v { ready = v.ready ++ count ∷ [] })) (found w at)
              ∙ ap (λ (ready : List ℕ). Some (record w { ready = ready })) (sym (one_more shape (length before) place count goes))
