-- What a step of one seat on one word has to show, to keep what a sound state keeps of its cells and leaves.
use Rattle.std.proofs.Common.{◌≡◌, ◌≢◌, ℕ, ◌+◌, ◌-◌, ◌*◌, ◌^◌, ◌%◌, ◌<◌, ◌≤◌, Bool, true, false, cond, List, length, get_or, set, slice_index, refl, sym, ap, subst, inl, inr, ◌∙◌, arith}
use Rattle.std.proofs.lemmas.Bool.{cases_eq}
use Rattle.std.proofs.lemmas.List.{length-set, get_or-set_same, get_or-set_other, set-get_or}
use Rattle.lists.proofs.Places.{slice_get-set_cases}
use Rattle.qs_core.specs.Shape.{Shape, IsShape}
use Rattle.qs_core.specs.Core.{Chain, Core, View, cell_place, empty_view, view_at, word_count}
use Rattle.qs_core.specs.Steps.{ancestor_at}
use Rattle.qs_core.specs.Sound.{AreCellsSound, AreChains, AreLeavesSound, AreLocksSound, IsView, locks_of, raises_of}
use Rattle.qs_core.proofs.Chains.{AreChains-still, StaysFree, lock_count, locks_change, raise_count, raises_change, raises_few}
use Rattle.qs_core.proofs.Views.{IsView-view_at, view_at-get_or, changed}

-- a seat's view and the word at a place changed
abbrev pub moved : Core → ℕ → View → ℕ → ℕ → Core
moved core seat view place value = changed core (set core.words place value) seat view

-- a step that changes nothing
pub moved_same : (core : Core) (seat place : ℕ) → moved core seat (view_at core.views seat) place (slice_index core.words place) ≡ core
moved_same core seat place =
    let words : set core.words place (get_or core.words place 0) ≡ core.words = set-get_or core.words place 0 in
    let views : set core.views seat (view_at core.views seat) ≡ core.views =
    ap (set core.views seat) (view_at-get_or core.views seat) ∙ set-get_or core.views seat empty_view in
    λ i. record { words = words i; views = views i }

-- a step that changes the state only where a test holds
pub by_test : (shape : Shape) (core : Core) (seat : ℕ) (view : View) (place value : ℕ) (b : Bool) → (b ≡ true → AreLocksSound shape (moved core seat view place value)) → AreLocksSound shape core
    → AreLocksSound shape (moved core seat (cond b view (view_at core.views seat)) place (cond b value (slice_index core.words place)))
by_test shape core seat view place value true changed s = changed refl
by_test shape core seat view place value false changed s = subst (AreLocksSound shape) (sym (moved_same core seat place)) s

-- the parts make the whole: the seats' own word isn't written
pub from_parts : (shape : Shape) (core : Core) (seat : ℕ) (view : View) (place value : ℕ) → 0 < place → AreLocksSound shape core
    → AreCellsSound shape (moved core seat view place value) → AreLeavesSound shape (moved core seat view place value) → AreLocksSound shape (moved core seat view place value)
from_parts shape core seat view place value w s c l = record {
  words = length-set core.words place value ∙ s.words;
  seat_word = get_or-set_other core.words place 0 value 0 (omega arith) ∙ s.seat_word;
  cells = c;
  leaves = l;
}

-- what a step on the word of a cell has to show
pub record CellChange (shape : Shape) (core : Core) (seat : ℕ) (view : View) (object value : ℕ) : Type 0 where
  pub word_is : value ≡ locks_of object (set core.views seat view) + 2 * raises_of shape object (set core.views seat view)
  pub one : locks_of object (set core.views seat view) ≤ 1
  pub other_locks : (cell : ℕ) → (cell ≡ object → ⊥) → lock_count cell view.chains ≡ lock_count cell (view_at core.views seat).chains
  pub other_raises : (cell : ℕ) → (cell ≡ object → ⊥) → raise_count shape cell view.chains ≡ raise_count shape cell (view_at core.views seat).chains
  pub still : (other : ℕ) (seen : View) → IsView core other seen → StaysFree shape core.views (set core.views seat view) seen.chains
  pub new : AreChains shape (set core.views seat view) view.chains

-- where a view's chains lock and raise a cell as before, so do all
pub same_locks : (cell : ℕ) (views : List View) (seat : ℕ) (view : View) → seat < length views → lock_count cell view.chains ≡ lock_count cell (view_at views seat).chains
    → locks_of cell (set views seat view) ≡ locks_of cell views
same_locks cell views seat view l e = let a = locks_change cell views seat view l in omega arith

pub same_raises : (shape : Shape) (cell : ℕ) (views : List View) (seat : ℕ) (view : View) → seat < length views
    → raise_count shape cell view.chains ≡ raise_count shape cell (view_at views seat).chains → raises_of shape cell (set views seat view) ≡ raises_of shape cell views
same_raises shape cell views seat view l e = let a = raises_change shape cell views seat view l in omega arith

-- the chains of every seat, where one view is changed
chains_moved : (shape : Shape) (core : Core) (seat : ℕ) (view : View) (place value : ℕ)
    → ((other : ℕ) (seen : View) → IsView core other seen → StaysFree shape core.views (set core.views seat view) seen.chains)
    → AreChains shape (set core.views seat view) view.chains → AreCellsSound shape core
    → (other : ℕ) (seen : View) → IsView (moved core seat view place value) other seen → AreChains shape (set core.views seat view) seen.chains
chains_moved shape core seat view place value still new s other seen v =
    elim (slice_get-set_cases core.views seat other view seen v.is) [
      | inl p ↦ subst (λ (w : View). AreChains shape (set core.views seat view) w.chains) p.1 new
      | inr q ↦
          let old : IsView core other seen = record { is = q } in
          AreChains-still shape core.views (set core.views seat view) seen.chains (still other seen old) (s.chains other seen old)
    ]

-- a step on the word of a cell
pub cells_moved : (shape : Shape) (core : Core) (seat : ℕ) (view : View) (object value : ℕ) → length core.words ≡ word_count shape → seat < length core.views
    → object < length shape.parents → CellChange shape core seat view object value → AreCellsSound shape core → AreCellsSound shape (moved core seat view (cell_place shape object) value)
cells_moved shape core seat view object value len l m c s = record {
  cell_words = λ cell h. elim (cases_eq cell object) [
    | inl e ↦
        let written = get_or-set_same core.words (1 + object) value 0 (omega arith) in
        subst (λ x. get_or (set core.words (1 + object) value) (1 + x) 0 ≡ locks_of x (set core.views seat view) + 2 * raises_of shape x (set core.views seat view)) (sym e) (written ∙ c.word_is)
    | inr n ↦
        let kept = get_or-set_other core.words (1 + object) (1 + cell) value 0 (λ q. n (omega arith)) in
        let old = s.cell_words cell h in
        let locks = same_locks cell core.views seat view l (c.other_locks cell n) in
        let raises = same_raises shape cell core.views seat view l (c.other_raises cell n) in
        omega arith
  ];
  one_lock = λ cell. elim (cases_eq cell object) [
    | inl e ↦ subst (λ x. locks_of x (set core.views seat view) ≤ 1) (sym e) c.one
    | inr n ↦ let locks = same_locks cell core.views seat view l (c.other_locks cell n) in let old = s.one_lock cell in omega arith
  ];
  chains = chains_moved shape core seat view (cell_place shape object) value c.still c.new s;
}

-- a step that leaves the chains, on another word
pub cells_kept : (shape : Shape) (core : Core) (seat : ℕ) (view : View) (place value : ℕ) → seat < length core.views → view.chains ≡ (view_at core.views seat).chains
    → ((cell : ℕ) → cell < length shape.parents → cell_place shape cell ≢ place) → AreCellsSound shape core → AreCellsSound shape (moved core seat view place value)
cells_kept shape core seat view place value l same apart s =
    let locks : (cell : ℕ) → locks_of cell (set core.views seat view) ≡ locks_of cell core.views = λ cell. same_locks cell core.views seat view l (ap (lock_count cell) same) in
    let raises : (cell : ℕ) → raises_of shape cell (set core.views seat view) ≡ raises_of shape cell core.views =
    λ cell. same_raises shape cell core.views seat view l (ap (raise_count shape cell) same) in
    let free : (chains : List Chain) → StaysFree shape core.views (set core.views seat view) chains = λ chains chain k h m e. locks (ancestor_at shape chain k) ∙ e in
    let old = s.chains seat (view_at core.views seat) (IsView-view_at core seat l) in
    record {
      cell_words = λ cell h.
          let kept = get_or-set_other core.words place (1 + cell) value 0 (apart cell h) in
          let before = s.cell_words cell h in
          let a = locks cell in
          let b = raises cell in
          omega arith;
      one_lock = λ cell. let a = locks cell in let b = s.one_lock cell in omega arith;
      chains = chains_moved shape core seat view place value (λ other seen v. free seen.chains)
          (subst (AreChains shape (set core.views seat view)) (sym same) (AreChains-still shape core.views (set core.views seat view) (view_at core.views seat).chains (free (view_at core.views seat).chains) old)) s;
    }

-- the word of a cell is far from the end of 64 bits
pub word_fits : (shape : Shape) (core : Core) → IsShape shape → AreCellsSound shape core → (cell : ℕ) → cell < length shape.parents
    → slice_index core.words (cell_place shape cell) < 2 ^ 35
word_fits shape core is s cell l =
    let few = is.few_cells in
    let a = s.cell_words cell l in
    let b = s.one_lock cell in
    let c = raises_few shape core is s cell in
    omega arith

-- 2 or 1 less, in words of 64 bits
pub two_less : (seen left : ℕ) → seen ≡ left + 2 → seen < 2 ^ 35 → (seen + (2 ^ 64 - 2)) % 2 ^ 64 ≡ left
two_less seen left e l = omega arith

pub one_less : (seen left : ℕ) → seen ≡ left + 1 → seen < 2 ^ 35 → (seen + (2 ^ 64 - 1)) % 2 ^ 64 ≡ left
one_less seen left e l = omega arith
