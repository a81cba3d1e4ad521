-- A step that raises the next ancestor keeps the laws of the locks.
use Rattle.std.proofs.Common.{◌≡◌, ℕ, suc, ◌+◌, ◌*◌, ◌^◌, ◌%◌, ◌<◌, ◌≤◌, eqb, List, ◌∷◌, length, set, slice_index, Contains, refl, sym, subst, inl, inr, ◌∙◌, arith, true≢false, mod-eq_of_lt}
use Rattle.std.proofs.lemmas.Bool.{cases_Bool, cases_lt, eqb-false}
use Rattle.lists.proofs.Counts.{one_if, one_if-other, one_if-same}
use Rattle.lists.proofs.Elements.{Contains-cons_cases, Contains-head, Contains-later}
use Rattle.qs_core.specs.declared.event.Step.TheVariants.{Raise}
use Rattle.qs_core.specs.Shape.{Shape, IsShape, ancestors}
use Rattle.qs_core.specs.Core.{Chain, Core, Owns, View, cell_place, view_at}
use Rattle.qs_core.specs.Steps.{CanRaise, ancestor_at, newest, raised_chain, rest, stepped, with_newest}
use Rattle.qs_core.specs.Sound.{AreLocksSound, IsMarked, IsOut, locks_of, raises_of}
use Rattle.qs_core.proofs.Ancestors.{ancestor_is_cell}
use Rattle.qs_core.proofs.Chains.{newest_and_rest, newest_chains, raise_count, raises_changed}
use Rattle.qs_core.proofs.Locks.{cells_moved, from_parts, word_fits}
use Rattle.qs_core.proofs.LocksNewest.{newest_changed, raises_after}
use Rattle.qs_core.proofs.Outs.{leaves_kept}
use Rattle.qs_core.proofs.Views.{IsView-view_at}

module _ (shape : Shape) (core : Core) (seat : ℕ) (is : IsShape shape) (l : seat < length core.views) (s : AreLocksSound shape core)
    (can : CanRaise shape (view_at core.views seat)) where
  abbrev view : View
  view = view_at core.views seat

  abbrev old : Chain
  old = newest view

  abbrev older : List Chain
  older = rest view.chains

  abbrev object : ℕ
  object = ancestor_at shape old old.raises

  abbrev seen : ℕ
  seen = slice_index core.words (cell_place shape object)

  abbrev new : Chain
  new = raised_chain old seen

  abbrev new_view : View
  new_view = with_newest view new

  object_is_cell : object < length shape.parents
  object_is_cell = ancestor_is_cell shape is old.cell old.raises can.not_all

  was : seen ≡ locks_of object core.views + 2 * raises_of shape object core.views
  was = s.cells.cell_words object object_is_cell

  -- the ancestor is raised once more
  once_more : (c : ℕ) → raise_count shape c (new ∷ older) ≡ raise_count shape c (old ∷ older) + one_if object c
  once_more c = raises_changed shape c old new older refl refl can.not_all

  -- the ancestors raised before weren't locked, since the chain wasn't stopped
  old_unmarked : (k : ℕ) → k < old.raises → locks_of (ancestor_at shape old k) core.views ≡ 0
  old_unmarked k m = (newest_chains shape core seat l s.cells can.some).unmarked old (Contains-head old older) k m (λ q. true≢false (sym q.stopped ∙ can.free))

  -- the one raised now isn't, where the word seen was even
  last_unmarked : (IsMarked new old.raises → ⊥) → locks_of object core.views ≡ 0
  last_unmarked n =
      elim (cases_Bool (eqb (seen % 2) 1)) [
        | inl t ↦ absurd (n (record { last = refl; stopped = t; kept = can.kept }))
        | inr f ↦
            let odd : seen % 2 ≡ 1 → ⊥ = eqb-false (seen % 2) 1 f in
            let word = was in
            let one : locks_of object core.views ≤ 1 = s.cells.one_lock object in
            omega arith
      ]

  unmarked : (k : ℕ) → k < suc old.raises → (IsMarked new k → ⊥) → locks_of (ancestor_at shape new k) core.views ≡ 0
  unmarked k m n =
      elim (cases_lt k old.raises) [
        | inl a ↦ old_unmarked k a
        | inr a ↦
            let e : old.raises ≡ k = omega arith in
            subst (λ x. locks_of (ancestor_at shape old x) core.views ≡ 0) e (last_unmarked (λ q. n (subst (IsMarked new) e q)))
      ]

  word : (seen + 2) % 2 ^ 64 ≡ locks_of object core.views + 2 * raises_of shape object (set core.views seat new_view)
  word =
      let fits = word_fits shape core is s.cells object object_is_cell in
      let value : (seen + 2) % 2 ^ 64 ≡ seen + 2 = mod-eq_of_lt (omega arith) in
      let word = was in
      let raises = raises_after shape core seat l s.cells can.some new refl object in
      let more = once_more object in
      let one = one_if-same object object refl in
      omega arith

  -- what the seat owned, it owns
  still_owned : (cell : ℕ) → Owns shape view cell → Owns shape new_view cell
  still_owned cell o =
      elim (Contains-cons_cases old older o.chain (subst (λ xs. Contains xs o.chain) (newest_and_rest view can.some) o.stands)) [
        | inl e ↦
            let all : old.raises ≡ length (ancestors shape old.cell) = subst (λ (x : Chain). x.raises ≡ length (ancestors shape x.cell)) (sym e) o.complete.all_raised in
            let less = can.not_all in
            absurd (omega arith)
        | inr m ↦ record { chain = o.chain; stands = Contains-later new older o.chain m; complete = o.complete; of_cell = o.of_cell }
      ]

  still_out : (leaf : ℕ) → Contains new_view.out leaf → IsOut shape new_view leaf
  still_out leaf h =
      let o = s.leaves.outs seat view leaf (IsView-view_at core seat l) h in
      record { is_leaf = o.is_leaf; above = record { cell = o.above.cell; owned = still_owned o.above.cell o.above.owned; below = o.above.below }; left = o.left }

  pub raise_kept : AreLocksSound shape (stepped shape core seat Raise)
  raise_kept =
      from_parts shape core seat new_view (cell_place shape object) ((seen + 2) % 2 ^ 64) (omega arith) s
      (cells_moved shape core seat new_view object ((seen + 2) % 2 ^ 64) s.words l object_is_cell
      (newest_changed shape core seat l s.cells can.some new refl object ((seen + 2) % 2 ^ 64) word can.not_all unmarked
      (λ c n. let a = once_more c in let b = one_if-other object c (λ q. n (sym q)) in omega arith)) s.cells)
      (leaves_kept shape core seat new_view (cell_place shape object) ((seen + 2) % 2 ^ 64) l refl (λ leaf h. let c = object_is_cell in omega arith) still_out s.leaves)
