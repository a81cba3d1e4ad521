-- A step that lowers the ancestor raised last keeps the laws of the locks.
use Rattle.std.proofs.Common.{◌≡◌, ℕ, suc, ◌+◌, ◌-◌, ◌*◌, ◌^◌, ◌%◌, ◌<◌, List, ◌∷◌, length, set, slice_index, refl, sym, arith}
use Rattle.lists.proofs.Counts.{one_if, one_if-other, one_if-same}
use Rattle.lists.proofs.Elements.{Contains-head}
use Rattle.qs_core.specs.declared.event.Step.TheVariants.{Lower}
use Rattle.qs_core.specs.Shape.{Shape, IsShape, ancestors}
use Rattle.qs_core.specs.Core.{Chain, Core, View, cell_place, view_at}
use Rattle.qs_core.specs.Steps.{CanLower, ancestor_at, lowered_chain, newest, rest, stepped, with_newest}
use Rattle.qs_core.specs.Sound.{AreChains, AreLocksSound, IsMarked, locks_of, raises_of}
use Rattle.qs_core.proofs.Ancestors.{ancestor_is_cell}
use Rattle.qs_core.proofs.Chains.{newest_chains, raise_count, raises_changed}
use Rattle.qs_core.proofs.Locks.{two_less, word_fits}
use Rattle.qs_core.proofs.LocksNewest.{newest_changed, raises_after}
use Rattle.qs_core.proofs.Outs.{cell_step_kept}

module _ (shape : Shape) (core : Core) (seat : ℕ) (is : IsShape shape) (l : seat < length core.views) (s : AreLocksSound shape core)
    (can : CanLower (view_at core.views seat)) where
  abbrev old : Chain
  old = newest (view_at core.views seat)

  abbrev older : List Chain
  older = rest (view_at core.views seat).chains

  abbrev new : Chain
  new = lowered_chain old

  abbrev new_view : View
  new_view = with_newest (view_at core.views seat) new

  abbrev object : ℕ
  object = ancestor_at shape old (old.raises - 1)

  abbrev seen : ℕ
  seen = slice_index core.words (cell_place shape object)

  before : AreChains shape core.views (old ∷ older)
  before = newest_chains shape core seat l s.cells can.some

  one_more : old.raises ≡ suc (old.raises - 1)
  one_more = let some = can.raised in omega arith

  last_within : old.raises - 1 < length (ancestors shape old.cell)
  last_within = let some = can.raised in let within = (before.cells old (Contains-head old older)).1 in omega arith

  object_is_cell : object < length shape.parents
  object_is_cell = ancestor_is_cell shape is old.cell (old.raises - 1) last_within

  -- the ancestor is raised once less
  once_less : (c : ℕ) → raise_count shape c (old ∷ older) ≡ raise_count shape c (new ∷ older) + one_if object c
  once_less c = raises_changed shape c new old older refl one_more last_within

  -- the raises that are left were not the last, so they weren't marked
  unmarked : (k : ℕ) → k < old.raises - 1 → (IsMarked new k → ⊥) → locks_of (ancestor_at shape new k) core.views ≡ 0
  unmarked k m n = before.unmarked old (Contains-head old older) k (omega arith) (λ q. let last = q.last in omega arith)

  word : (seen + (2 ^ 64 - 2)) % 2 ^ 64 ≡ locks_of object core.views + 2 * raises_of shape object (set core.views seat new_view)
  word =
      let was : seen ≡ locks_of object core.views + 2 * raises_of shape object core.views = s.cells.cell_words object object_is_cell in
      let raises = raises_after shape core seat l s.cells can.some new refl object in
      let less = once_less object in
      let one = one_if-same object object refl in
      two_less seen (locks_of object core.views + 2 * raises_of shape object (set core.views seat new_view)) (omega arith) (word_fits shape core is s.cells object object_is_cell)

  pub lower_kept : AreLocksSound shape (stepped shape core seat Lower)
  lower_kept =
      cell_step_kept shape core seat new_view object ((seen + (2 ^ 64 - 2)) % 2 ^ 64) l s object_is_cell refl can.none_out
      (newest_changed shape core seat l s.cells can.some new refl object ((seen + (2 ^ 64 - 2)) % 2 ^ 64) word (let within = last_within in omega arith) unmarked
      (λ c n. let a = once_less c in let b = one_if-other object c (λ q. n (sym q)) in omega arith))
