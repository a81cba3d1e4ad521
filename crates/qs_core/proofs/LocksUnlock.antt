-- A step that unlocks the cell of the newest chain keeps the laws of the locks.
use Rattle.std.proofs.Common.{◌≡◌, ℕ, ◌+◌, ◌-◌, ◌*◌, ◌^◌, ◌%◌, ◌<◌, List, ◌∷◌, length, set, slice_index, refl, sym, ap, ◌∙◌, arith}
use Rattle.lists.proofs.Counts.{one_if, one_if-other, one_if-same}
use Rattle.lists.proofs.Elements.{Contains-head}
use Rattle.qs_core.specs.declared.event.Step.TheVariants.{Unlock}
use Rattle.qs_core.specs.Shape.{Shape, IsShape}
use Rattle.qs_core.specs.Core.{Chain, Core, View, cell_place, view_at}
use Rattle.qs_core.specs.Steps.{CanUnlock, ancestor_at, newest, rest, stepped}
use Rattle.qs_core.specs.Sound.{AreChains, locks_of, raises_of, AreLocksSound}
use Rattle.qs_core.proofs.Chains.{AreChains-rest, AreChains-still, StaysFree, lock_count, locks_change, locks_more, newest_and_rest, newest_chains, raise_count, raises_change, raises_same}
use Rattle.qs_core.proofs.Locks.{CellChange, one_less, word_fits}
use Rattle.qs_core.proofs.Outs.{cell_step_kept}

-- the view without its newest chain
abbrev without_newest : View → View
without_newest view = record view { chains = rest view.chains }

module _ (shape : Shape) (core : Core) (seat : ℕ) (is : IsShape shape) (l : seat < length core.views) (s : AreLocksSound shape core)
    (can : CanUnlock (view_at core.views seat)) where
  abbrev view : View
  view = view_at core.views seat

  abbrev old : Chain
  old = newest view

  abbrev seen : ℕ
  seen = slice_index core.words (cell_place shape old.cell)

  abbrev new_view : View
  new_view = without_newest view

  abbrev after : List View
  after = set core.views seat new_view

  split : view.chains ≡ old ∷ rest view.chains
  split = newest_and_rest view can.some

  before : AreChains shape core.views (old ∷ rest view.chains)
  before = newest_chains shape core seat l s.cells can.some

  object_is_cell : old.cell < length shape.parents
  object_is_cell = (before.cells old (Contains-head old (rest view.chains))).0

  -- the cell is locked once less, and the raises are as they were
  view_locks : (c : ℕ) → lock_count c view.chains ≡ one_if old.cell c + lock_count c new_view.chains
  view_locks c = ap (lock_count c) split ∙ locks_more c old (rest view.chains)

  view_raises : (c : ℕ) → raise_count shape c new_view.chains ≡ raise_count shape c view.chains
  view_raises c = sym (ap (raise_count shape c) split ∙ raises_same shape c old (rest view.chains) can.none_raised)

  locks_after : (c : ℕ) → locks_of c core.views ≡ locks_of c after + one_if old.cell c
  locks_after c = let a = locks_change c core.views seat new_view l in let b = view_locks c in omega arith

  still : (chains : List Chain) → StaysFree shape core.views after chains
  still chains chain k h m e = let a = locks_after (ancestor_at shape chain k) in omega arith

  change : CellChange shape core seat new_view old.cell ((seen + (2 ^ 64 - 1)) % 2 ^ 64)
  change = record {
    word_is =
        let fits = word_fits shape core is s.cells old.cell object_is_cell in
        let word : seen ≡ locks_of old.cell core.views + 2 * raises_of shape old.cell core.views = s.cells.cell_words old.cell object_is_cell in
        let locks = locks_after old.cell in
        let raises = raises_change shape old.cell core.views seat new_view l in
        let same = view_raises old.cell in
        let one = one_if-same old.cell old.cell refl in
        one_less seen (locks_of old.cell after + 2 * raises_of shape old.cell after) (omega arith) fits;
    one = let locks = locks_after old.cell in let one = s.cells.one_lock old.cell in omega arith;
    other_locks = λ c n. let a = view_locks c in let b = one_if-other old.cell c (λ q. n (sym q)) in omega arith;
    other_raises = λ c n. view_raises c;
    still = λ other theirs v. still theirs.chains;
    new = AreChains-rest shape after old (rest view.chains) (AreChains-still shape core.views after (old ∷ rest view.chains) (still (old ∷ rest view.chains)) before);
  }

  pub unlock_kept : AreLocksSound shape (stepped shape core seat Unlock)
  unlock_kept = cell_step_kept shape core seat new_view old.cell ((seen + (2 ^ 64 - 1)) % 2 ^ 64) l s object_is_cell refl can.none_out change
