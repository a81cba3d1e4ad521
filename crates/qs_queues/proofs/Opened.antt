-- Opening a table of queues, and splitting a seat off, keep the rule.
use Rattle.std.proofs.Common.{◌≡◌, ℕ, suc, ◌+◌, ◌<◌, List, [], ◌∷◌, ◌++◌, map, replicate, slice_index, count_by, Contains, Some, Option, refl, sym, ap, ◌∙◌, subst, inl, inr, arith}
use Rattle.std.proofs.lemmas.List.{get_or-replicate, length-map, length-replicate}
use Rattle.std.proofs.lemmas.List.Sums.{sum_by_push}
use Rattle.std.proofs.lemmas.Option.{none-some}
use mathlib.Core.Option.{some}
use lib.ListN.{get_elem?}
use Rattle.atomic_table.specs.Table.{State, Splits}
use Rattle.atomic_table.specs.Table as table
use Rattle.atomic_table.proofs.Lists.{at_index, at_map, at_snoc, set_again}
use Rattle.lists.proofs.Elements.{Contains-nil, only}
use Rattle.lists.proofs.Places.{Contains-from_slice_get}
use Rattle.lists.proofs.Words.{get_from_elem}
use Rattle.qs_heap.specs.Heap.{Heap}
use Rattle.qs_queues.specs.declared.view.QueueView.{QueueView}
use Rattle.qs_queues.specs.Views.{fresh_view}
use Rattle.qs_queues.specs.Rule.{ShowsQueues, holders_of, holds_one, is_unlock}
use Rattle.qs_queues.specs.inner.Plays.{empty_heap, fresh_beside}

read_replicate : (n k : ℕ) → k < n → slice_index (replicate n 0) k ≡ 0
read_replicate n k l = get_or-replicate n k 0 0 l

elem_replicate : {S : Type 0} (n k : ℕ) (x : S) → k < n → get_elem? (map some (replicate n x)) k ≡ some (some x)
elem_replicate n k x l =
    at_map some (replicate n x) k x (at_index (replicate n x) k x (omega (arith, length-replicate n x)) (sym (get_or-replicate n k x x l)))

-- a list of one element has no other
single : {X : Type 0} (x : X) (j : ℕ) (u : X) → get_elem? (x ∷ []) j ≡ some u → x ≡ u
single x j u e = only x u (Contains-from_slice_get (x ∷ []) j u (get_from_elem (x ∷ []) j u e))

module _ (queues room tasks : ℕ) where
  pub opens : ShowsQueues queues room tasks (table.opening (tasks ∷ replicate queues 0) (replicate queues (Some (empty_heap room))) (fresh_view room tasks))
  opens = record {
    history = λ _. [];
    wide = omega (arith, length-replicate {A = ℕ} queues 0);
    deep = length-map (replicate queues (Some (empty_heap room))) some ∙ length-replicate queues (Some (empty_heap room));
    chained = λ _. tt;
    noted = λ j u m e c. absurd (Contains-nil m (subst (λ (x : QueueView). Contains x.notes m) (sym (single (fresh_view room tasks) j u e)) c));
    once = λ q number pos l. absurd (omega arith);
    words = λ q l. subst (λ (k : ℕ). slice_index (tasks ∷ replicate queues 0) k ≡ 0) (let e : suc q ≡ q + 1 = omega arith in e) (read_replicate queues q l);
    one = λ q. omega arith;
    held = λ j u h e hg. absurd (none-some h (ap (λ (x : QueueView). x.held) (single (fresh_view room tasks) j u e) ∙ hg));
    free = λ q l z. record { heap = empty_heap room; at = elem_replicate queues q (Some (empty_heap room)) l; entries = refl; right = record { ordered = record { ordered = λ place below r l. absurd (omega arith) }; room_is = refl; below = λ k d l. absurd (omega arith) } };
    limits = λ j u e. let s = single (fresh_view room tasks) j u e in (ap (λ (x : QueueView). x.room) (sym s), ap (λ (x : QueueView). x.tasks) (sym s));
    left = omega arith;
  }

  module _ (s : State (Option Heap) QueueView) (rule : ShowsQueues queues room tasks s) (seat : ℕ) (v : QueueView) (is : get_elem? s.views seat ≡ some v) where
    abbrev after : State (Option Heap) QueueView
    after = record { words = s.words; homes = s.homes; views = s.views ++ fresh_beside v ∷ [] }

    same_holders : (q : ℕ) → holders_of q after.views ≡ holders_of q s.views
    same_holders q = let a = sum_by_push (λ (u : QueueView). holds_one q u.held) s.views (fresh_beside v) in omega arith

    more : ShowsQueues queues room tasks after
    more = record {
      history = rule.history;
      wide = rule.wide;
      deep = rule.deep;
      chained = rule.chained;
      noted = λ j u m e c. elim (at_snoc s.views (fresh_beside v) u j e) [
        | inl q ↦ rule.noted j u m q c
        | inr q ↦ absurd (Contains-nil m (subst (λ (x : QueueView). Contains x.notes m) (sym q) c))
      ];
      once = λ q number pos l. let a = sum_by_push (λ (u : QueueView). count_by (is_unlock q number) u.notes) s.views (fresh_beside v) in let o = rule.once q number pos l in omega arith;
      words = λ q l. rule.words q l ∙ sym (same_holders q);
      one = λ q. let a = same_holders q in let b = rule.one q in omega arith;
      held = λ j u h e hg. elim (at_snoc s.views (fresh_beside v) u j e) [
        | inl q ↦ rule.held j u h q hg
        | inr q ↦ absurd (none-some h (ap (λ (x : QueueView). x.held) q ∙ hg))
      ];
      free = λ q l z. rule.free q l (sym (same_holders q) ∙ z);
      limits = λ j u e. elim (at_snoc s.views (fresh_beside v) u j e) [
        | inl q ↦ rule.limits j u q
        | inr q ↦ let l = rule.limits seat v is in (ap (λ (x : QueueView). x.room) (sym q) ∙ l.0, ap (λ (x : QueueView). x.tasks) (sym q) ∙ l.1)
      ];
      left = let a = sum_by_push (λ (u : QueueView). u.subtractions) s.views (fresh_beside v) in let l = rule.left in omega arith;
    }

  pub splits : (seat : ℕ) (v : QueueView) → Splits (ShowsQueues queues room tasks) seat v v (fresh_beside v)
  splits seat v s rule is =
      subst (λ (vs : List QueueView). ShowsQueues queues room tasks record { words = s.words; homes = s.homes; views = vs ++ fresh_beside v ∷ [] }) (sym (set_again s.views seat v is)) (more s rule seat v is)
