-- A step that locks a cell keeps the laws of the locks.
use Rattle.std.proofs.Common.{◌≡◌, ℕ, ◌+◌, ◌<◌, eqb, List, ◌∷◌, length, set, slice_index, refl, sym, ap, inl, inr, arith, eqb-true}
use Rattle.std.proofs.lemmas.Bool.{cases_eq}
use Rattle.lists.proofs.Counts.{one_if, one_if-other, one_if-same}
use Rattle.qs_core.specs.declared.event.Step.TheVariants.{Lock}
use Rattle.qs_core.specs.Shape.{Shape}
use Rattle.qs_core.specs.Core.{Core, View, cell_place, view_at}
use Rattle.qs_core.specs.Steps.{CanLock, ancestor_at, new_chain, stepped}
use Rattle.qs_core.specs.Sound.{IsView, locks_of, raises_of, AreLocksSound}
use Rattle.qs_core.proofs.Chains.{AreChains-lock, AreChains-still, StaysFree, locks_change, locks_more, raises_change, raises_its_ancestors, raises_same}
use Rattle.qs_core.proofs.Locks.{CellChange, by_test, moved}
use Rattle.qs_core.proofs.Views.{IsView-view_at}
use Rattle.qs_core.proofs.Outs.{cell_step_kept}

-- a view with the chain of a cell just locked before its others
abbrev pub with_lock : View → ℕ → View
with_lock view cell = record view { chains = new_chain cell ∷ view.chains }

module _ (shape : Shape) (core : Core) (seat cell : ℕ) (l : seat < length core.views) (s : AreLocksSound shape core) (can : CanLock shape (view_at core.views seat) cell) where
  abbrev view : View
  view = view_at core.views seat

  abbrev after : List View
  after = set core.views seat (with_lock view cell)

  -- where the word was 0, the cell was neither locked nor raised
  none : slice_index core.words (cell_place shape cell) ≡ 0 → (locks_of cell core.views ≡ 0) × (raises_of shape cell core.views ≡ 0)
  none free = let a = s.cells.cell_words cell can.is_cell in (omega arith, omega arith)

  locks_after : (c : ℕ) → locks_of c after ≡ locks_of c core.views + one_if cell c
  locks_after c = let a = locks_change c core.views seat (with_lock view cell) l in let b = locks_more c (new_chain cell) view.chains in omega arith

  raises_after : (c : ℕ) → raises_of shape c after ≡ raises_of shape c core.views
  raises_after c = let a = raises_change shape c core.views seat (with_lock view cell) l in let b = raises_same shape c (new_chain cell) view.chains refl in omega arith

  -- no chain has raised the cell
  still : slice_index core.words (cell_place shape cell) ≡ 0 → (other : ℕ) (seen : View) → IsView core other seen → StaysFree shape core.views after seen.chains
  still free other seen v chain k h m e =
      elim (cases_eq (ancestor_at shape chain k) cell) [
        | inl q ↦
            let a = raises_its_ancestors shape core other seen chain k v h m ((s.cells.chains other seen v).cells chain h).1 in
            let b = (none free).1 in
            let t : raises_of shape (ancestor_at shape chain k) core.views ≡ raises_of shape cell core.views = ap (λ x. raises_of shape x core.views) q in
            absurd (omega arith)
        | inr n ↦
            let a = locks_after (ancestor_at shape chain k) in
            let b = one_if-other cell (ancestor_at shape chain k) (λ q. n (sym q)) in
            omega arith
      ]

  change : slice_index core.words (cell_place shape cell) ≡ 0 → CellChange shape core seat (with_lock view cell) cell 1
  change free = record {
    word_is = let w = none free in let a = locks_after cell in let b = raises_after cell in let c = one_if-same cell cell refl in omega arith;
    one = let w = none free in let a = locks_after cell in let c = one_if-same cell cell refl in omega arith;
    other_locks = λ c n. let a = locks_more c (new_chain cell) view.chains in let b = one_if-other cell c (λ q. n (sym q)) in omega arith;
    other_raises = λ c n. raises_same shape c (new_chain cell) view.chains refl;
    still = still free;
    new =
        let v : IsView core seat view = IsView-view_at core seat l in
        AreChains-lock shape after (new_chain cell) view.chains refl can.is_cell can.room.few can.room.complete
        (AreChains-still shape core.views after view.chains (still free seat view v) (s.cells.chains seat view v));
  }

  locked : slice_index core.words (cell_place shape cell) ≡ 0 → AreLocksSound shape (moved core seat (with_lock view cell) (cell_place shape cell) 1)
  locked free = cell_step_kept shape core seat (with_lock view cell) cell 1 l s can.is_cell refl can.free.none_out (change free)

  pub lock_kept : AreLocksSound shape (stepped shape core seat (Lock cell))
  lock_kept =
      by_test shape core seat (with_lock view cell) (cell_place shape cell) 1 (eqb (slice_index core.words (cell_place shape cell)) 0)
      (λ e. locked (eqb-true (slice_index core.words (cell_place shape cell)) 0 e)) s
