-- Steps that fetch and return a leaf keep the laws of the locks.
use Rattle.std.proofs.Common.{◌≡◌, ℕ, ◌+◌, ◌<◌, List, ◌∷◌, length, get_or, set, slice_get, Contains, Option, Some, None, refl, sym, ap, subst, inl, inr, ◌∙◌, arith}
use Rattle.std.proofs.lemmas.Bool.{cases_eq}
use Rattle.std.proofs.lemmas.Option.{none-some, same_Some, slice_get-get_or}
use Rattle.std.proofs.lemmas.List.Sums.{sum_by-cons, sum_by-le}
use Rattle.lists.proofs.Elements.{each_cons}
use Rattle.lists.proofs.Counts.{count-pos, count-zero, one_if, one_if-other, one_if-same}
use Rattle.qs_core.specs.declared.event.Step.TheVariants.{Fetch, Return}
use Rattle.qs_core.specs.Shape.{Shape, IsShape}
use Rattle.qs_core.specs.Core.{Core, Running, View, leaf_place, view_at}
use Rattle.qs_core.specs.Steps.{CanFetch, CanReturn, MayFetch, after_return, stepped, without}
use Rattle.qs_core.specs.Sound.{IsOut, IsView, outs_of, AreLocksSound}
use Rattle.qs_core.proofs.Without.{Contains-without, count_by-without, without_keeps}
use Rattle.qs_core.proofs.Exclusive.{one_seat_each}
use Rattle.qs_core.proofs.Locks.{cells_kept, from_parts}
use Rattle.qs_core.proofs.Outs.{above_by_chains, leaves_moved, out_by_chains, out_count, outs_change}
use Rattle.qs_core.proofs.Views.{IsView-view_at}
use Rattle.qs_core.proofs.Running.{IsGoing-from}
use Rattle.qs_core.proofs.RunningReturn.{returning}

-- the view with a leaf out
abbrev with_leaf : View → ℕ → View
with_leaf view leaf = record view { out = leaf ∷ view.out }

module _ (shape : Shape) (core : Core) (seat leaf : ℕ) (is : IsShape shape) (l : seat < length core.views) (s : AreLocksSound shape core) (can : CanFetch shape (view_at core.views seat) leaf) where
  abbrev view : View
  view = view_at core.views seat

  abbrev new_view : View
  new_view = with_leaf view leaf

  abbrev after : List View
  after = set core.views seat new_view

  is_view : IsView core seat view
  is_view = IsView-view_at core seat l

  -- no seat has the leaf out: this one has it home, and another would own a cell above it
  not_out : (other : ℕ) (theirs : View) → IsView core other theirs → Contains theirs.out leaf → ⊥
  not_out other theirs v h =
      elim (cases_eq seat other) [
        | inl e ↦
            let same : theirs ≡ view = same_Some theirs view (sym v.is ∙ ap (slice_get core.views) (sym e) ∙ is_view.is) in
            can.home (subst (λ (w : View). Contains w.out leaf) same h)
        | inr n ↦
            let o = s.leaves.outs other theirs leaf v h in
            one_seat_each shape core s.cells is seat other view theirs can.above.cell o.above.cell leaf is_view v can.above.owned o.above.owned can.above.below o.above.below n
      ]

  none_have_it : (other : ℕ) (theirs : View) → IsView core other theirs → out_count leaf theirs.out ≡ 0
  none_have_it other theirs v = count-zero theirs.out leaf (not_out other theirs v)

  none_out : outs_of leaf core.views ≡ 0
  none_out =
      let a = sum_by-le (λ (v : View). out_count leaf v.out) 0 core.views
      (λ k d m. let e = none_have_it k (get_or core.views k d) (record { is = slice_get-get_or core.views k d m }) in omega arith) in
      omega arith

  view_outs : (c : ℕ) → out_count c new_view.out ≡ one_if leaf c + out_count c view.out
  view_outs c = sum_by-cons (λ x. one_if x c) leaf view.out

  one_after : outs_of leaf after ≡ 1
  one_after =
      let a = outs_change leaf core.views seat new_view l in
      let b = view_outs leaf in
      let c = one_if-same leaf leaf refl in
      let d = none_out in
      omega arith

  fetched_out : (c : ℕ) → Contains new_view.out c → IsOut shape new_view c
  fetched_out =
      each_cons (IsOut shape new_view) leaf view.out
      (record {
        is_leaf = can.is_leaf;
        above = above_by_chains shape view new_view leaf refl can.above;
        left = λ running e. subst (λ r. MayFetch r leaf) e can.left;
      })
      (λ c h. let o = s.leaves.outs seat view c is_view h in out_by_chains shape view new_view c refl o.left o)

  pub fetch_kept : AreLocksSound shape (stepped shape core seat (Fetch leaf))
  fetch_kept =
      from_parts shape core seat new_view (leaf_place shape leaf) 1 (omega arith) s
      (cells_kept shape core seat new_view (leaf_place shape leaf) 1 l refl (λ cell h. omega arith) s.cells)
      (leaves_moved shape core seat new_view leaf 1 s.words l can.is_leaf (sym one_after) (let a = one_after in omega arith)
      (λ c n. let a = view_outs c in let b = one_if-other leaf c (λ q. n (sym q)) in omega arith) fetched_out s.leaves)

-- another leaf that was left to return still is
left_after : (leaf c : ℕ) (o : Option Running) → (c ≡ leaf → ⊥) → ((r : Running) → o ≡ Some r → Contains r.leaves c) → (r : Running) → after_return o leaf ≡ Some r → Contains r.leaves c
left_after leaf c None n left r e = absurd (none-some r e)
left_after leaf c (Some q) n left r e =
    subst (λ xs. Contains xs c) (ap (λ (x : Running). x.leaves) (IsGoing-from q.task (without leaf q.leaves) q.successors r e).is) (without_keeps leaf q.leaves c (left q refl) n)

module _ (shape : Shape) (core : Core) (seat leaf : ℕ) (l : seat < length core.views) (s : AreLocksSound shape core) (can : CanReturn shape (view_at core.views seat) leaf) where
  abbrev holder : View
  holder = view_at core.views seat

  abbrev returned : View
  returned = returning holder leaf

  is_holder : IsView core seat holder
  is_holder = IsView-view_at core seat l

  -- it was out once in all, here
  none_after : outs_of leaf (set core.views seat returned) ≡ 0
  none_after =
      let a = outs_change leaf core.views seat returned l in
      let none = count-zero returned.out leaf (λ h. (Contains-without leaf holder.out leaf h).1 refl) in
      let some = count-pos holder.out leaf can.out in
      let one = s.leaves.one_out leaf in
      omega arith

  returned_out : (c : ℕ) → Contains returned.out c → IsOut shape returned c
  returned_out c h =
      let w = Contains-without leaf holder.out c h in
      let o = s.leaves.outs seat holder c is_holder w.0 in
      out_by_chains shape holder returned c refl (left_after leaf c holder.running w.1 o.left) o

  pub return_kept : AreLocksSound shape (stepped shape core seat (Return leaf))
  return_kept =
      from_parts shape core seat returned (leaf_place shape leaf) 0 (omega arith) s
      (cells_kept shape core seat returned (leaf_place shape leaf) 0 l refl (λ cell h. omega arith) s.cells)
      (leaves_moved shape core seat returned leaf 0 s.words l can.is_leaf (sym none_after) (let a = none_after in omega arith)
      (λ c n. count_by-without leaf c holder.out n) returned_out s.leaves)
