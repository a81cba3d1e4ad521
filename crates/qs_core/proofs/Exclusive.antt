-- No two chains own cells of which one contains the other.
use Rattle.std.proofs.Common.{◌≡◌, ℕ, ◌<◌, length, slice_get, Contains, Some, sym, ap, subst, inl, inr, ◌∙◌, arith, true≢false}
use Rattle.std.proofs.lemmas.List.{get_or_default}
use Rattle.std.proofs.lemmas.Option.{same_Some}
use Rattle.lists.proofs.Sums.{same_place}
use Rattle.lists.proofs.Counts.{counted, one_if, one_if-same}
use Rattle.lists.proofs.Places.{Contains-from_slice_get, get_from_Contains}
use Rattle.qs_core.specs.Shape.{Shape, IsShape, AreApart, IsBelow, ancestors}
use Rattle.qs_core.specs.Core.{Chain, Core, IsComplete, Owns, View}
use Rattle.qs_core.specs.Sound.{AreCellsSound, AreChains, IsExclusive, IsMarked, IsView, OwnsAt, locks_of}
use Rattle.qs_core.specs.Laws.{SoundIsExclusive}
use Rattle.qs_core.proofs.Chains.{lock_count, locks_its_cell}
use Rattle.qs_core.proofs.Views.{part-le-sum_by}

-- a raise of a complete chain isn't marked
pub complete_unmarked : (shape : Shape) (chain : Chain) (k : ℕ) → IsComplete shape chain → IsMarked chain k → ⊥
complete_unmarked shape chain k c m = true≢false (sym m.stopped ∙ c.free)

-- an ancestor of an owned cell isn't locked
pub above_is_free : (shape : Shape) (core : Core) (seat : ℕ) (view : View) (chain : Chain) (cell : ℕ) → AreChains shape core.views view.chains → Contains view.chains chain → IsComplete shape chain
    → Contains (ancestors shape chain.cell) cell → locks_of cell core.views ≡ 0
above_is_free shape core seat view chain cell a h c (j, l, e) =
    let all = c.all_raised in
    let free = a.unmarked chain h j (omega arith) (complete_unmarked shape chain j c) in
    subst (λ x. locks_of x core.views ≡ 0) (get_or_default (ancestors shape chain.cell) j 0 cell l ∙ e) free

module _ (shape : Shape) (core : Core) (s : AreCellsSound shape core) where
  same_cell : (seat seat' k k' cell : ℕ) → OwnsAt shape core seat k cell → OwnsAt shape core seat' k' cell → (seat ≡ seat') × (k ≡ k')
  same_cell seat seat' k k' cell o o' =
      let at = Contains-from_slice_get o.view.chains k o.chain o.at in
      let at' = Contains-from_slice_get o'.view.chains k' o'.chain o'.at in
      let seats : seat ≡ seat' =
      same_place (λ (v : View). lock_count cell v.chains) core.views seat seat' o.view o'.view o.is_view.is o'.is_view.is
      (counted (λ (c : Chain). c.cell) cell o.view.chains o.chain at o.of_cell) (counted (λ (c : Chain). c.cell) cell o'.view.chains o'.chain at' o'.of_cell)
      (s.one_lock cell) in
      let views : o'.view ≡ o.view = same_Some o'.view o.view (sym o'.is_view.is ∙ ap (slice_get core.views) (sym seats) ∙ o.is_view.is) in
      let few = part-le-sum_by (λ (v : View). lock_count cell v.chains) core seat o.view o.is_view in
      let one = s.one_lock cell in
      let mine = one_if-same o.chain.cell cell o.of_cell in
      let other = one_if-same o'.chain.cell cell o'.of_cell in
      let places : k ≡ k' =
      same_place (λ (c : Chain). one_if c.cell cell) o.view.chains k k' o.chain o'.chain o.at
      (subst (λ (v : View). slice_get v.chains k' ≡ Some o'.chain) views o'.at) (omega arith) (omega arith) (omega arith) in
      (seats, places)

  not_above : (seat seat' k k' cell cell' : ℕ) → OwnsAt shape core seat k cell → OwnsAt shape core seat' k' cell' → Contains (ancestors shape cell') cell → ⊥
  not_above seat seat' k k' cell cell' o o' m =
      let at' = Contains-from_slice_get o'.view.chains k' o'.chain o'.at in
      let free = above_is_free shape core seat' o'.view o'.chain cell (s.chains seat' o'.view o'.is_view) at' o'.complete
      (subst (λ c. Contains (ancestors shape c) cell) (sym o'.of_cell) m) in
      let locked = locks_its_cell core seat o.view o.chain cell o.is_view (Contains-from_slice_get o.view.chains k o.chain o.at) o.of_cell in
      omega arith

  pub cells_are_exclusive : IsExclusive shape core
  cells_are_exclusive seat seat' k k' cell cell' o o' c =
      elim c [
        | inl e ↦ same_cell seat seat' k k' cell o (subst (OwnsAt shape core seat' k') (sym e) o')
        | inr m ↦ absurd (not_above seat seat' k k' cell cell' o o' m)
      ]

  owned_at : (seat : ℕ) (view : View) (cell : ℕ) → IsView core seat view → Owns shape view cell → (k : ℕ) × OwnsAt shape core seat k cell
  owned_at seat view cell v o =
      let w = get_from_Contains view.chains o.chain o.stands in
      (w.0, record { view = view; is_view = v; chain = o.chain; at = w.1; complete = o.complete; of_cell = o.of_cell })

  -- the owned cells of two seats are apart
  pub owned_apart : (seat seat' : ℕ) (view view' : View) (cell cell' : ℕ) → IsView core seat view → IsView core seat' view' → (seat ≡ seat' → ⊥)
      → Owns shape view cell → Owns shape view' cell' → AreApart shape cell cell'
  owned_apart seat seat' view view' cell cell' v v' n o o' =
      let a = owned_at seat view cell v o in
      let a' = owned_at seat' view' cell' v' o' in
      record {
        not_above = λ c. n (cells_are_exclusive seat seat' a.0 a'.0 cell cell' a.1 a'.1 c).0;
        not_below = λ c. n (sym (cells_are_exclusive seat' seat a'.0 a.0 cell' cell a'.1 a.1 c).0);
      }

  -- an owned cell is a cell
  pub owned_is_cell : (seat : ℕ) (view : View) (cell : ℕ) → IsView core seat view → Owns shape view cell → cell < length shape.parents
  owned_is_cell seat view cell v o = let c = ((s.chains seat view v).cells o.chain o.stands).0 in let e = o.of_cell in omega arith

  -- so they have no leaf in common
  pub one_seat_each : IsShape shape → (seat seat' : ℕ) (view view' : View) (cell cell' leaf : ℕ) → IsView core seat view → IsView core seat' view'
      → Owns shape view cell → Owns shape view' cell' → IsBelow shape leaf cell → IsBelow shape leaf cell' → (seat ≡ seat' → ⊥) → ⊥
  one_seat_each is seat seat' view view' cell cell' leaf v v' o o' b b' n =
      is.own_leaves cell cell' leaf (owned_is_cell seat view cell v o) (owned_is_cell seat' view' cell' v' o') (owned_apart seat seat' view view' cell cell' v v' n o o') b b'

-- a sound state is exclusive
pub sound_is_exclusive : SoundIsExclusive
sound_is_exclusive shape core is s = cells_are_exclusive shape core s.locks.cells
