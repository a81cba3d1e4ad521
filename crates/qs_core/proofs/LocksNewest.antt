-- A step that puts another chain of the same cell in the place of a seat's newest: the locks are as they were.
use Rattle.std.proofs.Common.{◌≡◌, ◌≢◌, ℕ, ◌+◌, ◌*◌, ◌<◌, ◌≤◌, List, [], ◌∷◌, length, set, sym, ap, ◌∙◌, arith}
use Rattle.qs_core.specs.Shape.{Shape, ancestors}
use Rattle.qs_core.specs.Core.{Chain, Core, View, view_at}
use Rattle.qs_core.specs.Steps.{ancestor_at, newest, rest, with_newest}
use Rattle.qs_core.specs.Sound.{AreCellsSound, IsMarked, locks_of, raises_of}
use Rattle.qs_core.proofs.Chains.{AreChains-change, AreChains-still, StaysFree, lock_count, locks_changed, newest_and_rest, newest_chains, raise_count, raises_change}
use Rattle.qs_core.proofs.Locks.{CellChange, same_locks}

module _ (shape : Shape) (core : Core) (seat : ℕ) (l : seat < length core.views) (s : AreCellsSound shape core) (some : (view_at core.views seat).chains ≢ [])
    (new : Chain) (same : new.cell ≡ (newest (view_at core.views seat)).cell) where
  abbrev view : View
  view = view_at core.views seat

  abbrev old : Chain
  old = newest view

  abbrev older : List Chain
  older = rest view.chains

  abbrev new_view : View
  new_view = with_newest view new

  abbrev after : List View
  after = set core.views seat new_view

  split : view.chains ≡ old ∷ older
  split = newest_and_rest view some

  view_locks : (c : ℕ) → lock_count c new_view.chains ≡ lock_count c view.chains
  view_locks c = locks_changed c old new older same ∙ ap (lock_count c) (sym split)

  locks_after : (c : ℕ) → locks_of c after ≡ locks_of c core.views
  locks_after c = same_locks c core.views seat new_view l (view_locks c)

  still : (chains : List Chain) → StaysFree shape core.views after chains
  still chains chain k h m e = locks_after (ancestor_at shape chain k) ∙ e

  -- over all views, the raises change as they do in these chains
  pub raises_after : (c : ℕ) → raises_of shape c after + raise_count shape c (old ∷ older) ≡ raises_of shape c core.views + raise_count shape c (new ∷ older)
  raises_after c =
      let a = raises_change shape c core.views seat new_view l in
      let b = ap (raise_count shape c) split in
      omega arith

  -- what is left to show of the word, the new chain, and the raises of other cells
  pub newest_changed : (object value : ℕ) → value ≡ locks_of object core.views + 2 * raises_of shape object after
      → new.raises ≤ length (ancestors shape new.cell)
      → ((k : ℕ) → k < new.raises → (IsMarked new k → ⊥) → locks_of (ancestor_at shape new k) core.views ≡ 0)
      → ((c : ℕ) → (c ≡ object → ⊥) → raise_count shape c (new ∷ older) ≡ raise_count shape c (old ∷ older)) → CellChange shape core seat new_view object value
  newest_changed object value word within unmarked others = record {
    word_is = let locks = locks_after object in omega arith;
    one = let locks = locks_after object in let one = s.one_lock object in omega arith;
    other_locks = λ c n. view_locks c;
    other_raises = λ c n. others c n ∙ ap (raise_count shape c) (sym split);
    still = λ other theirs v. still theirs.chains;
    new = AreChains-change shape after old new older same within (λ k m n. locks_after (ancestor_at shape new k) ∙ unmarked k m n)
        (AreChains-still shape core.views after (old ∷ older) (still (old ∷ older)) (newest_chains shape core seat l s some));
  }
