-- The leaves that the seats have out, where one view is changed.
use Rattle.std.proofs.Common.{◌≡◌, ◌≢◌, ℕ, ◌+◌, ◌<◌, ◌≤◌, eqb, List, [], length, get_or, set, Contains, count_by, Some, sym, ap, subst, inl, inr, ◌∙◌, arith}
use Rattle.std.proofs.lemmas.Bool.{cases_eq}
use Rattle.std.proofs.lemmas.List.{get_or-set_same, get_or-set_other}
use Rattle.lists.proofs.Places.{slice_get-set_cases}
use Rattle.lists.proofs.Elements.{Contains-nil}
use Rattle.qs_core.specs.Shape.{Shape}
use Rattle.qs_core.specs.Core.{Core, Running, View, cell_place, leaf_place, view_at, word_count}
use Rattle.qs_core.specs.Steps.{OwnsAbove}
use Rattle.qs_core.specs.Sound.{AreLeavesSound, AreLocksSound, IsOut, IsView, outs_of}
use Rattle.qs_core.proofs.Locks.{CellChange, cells_moved, from_parts, moved}
use Rattle.qs_core.proofs.Views.{sum_by-views}
use Rattle.qs_core.proofs.Owned.{owns_by_chains}

-- how often a leaf stands in a list of those out
abbrev pub out_count : ℕ → List ℕ → ℕ
out_count leaf out = count_by (λ l. eqb l leaf) out

-- a change of one view, counted
pub outs_change : (leaf : ℕ) (views : List View) (seat : ℕ) (view : View) → seat < length views
    → outs_of leaf (set views seat view) + out_count leaf (view_at views seat).out ≡ outs_of leaf views + out_count leaf view.out
outs_change leaf views seat view l = sum_by-views (λ (v : View). out_count leaf v.out) views seat view l

-- where the view has a leaf out as often as before, so have all
pub same_outs : (leaf : ℕ) (views : List View) (seat : ℕ) (view : View) → seat < length views → out_count leaf view.out ≡ out_count leaf (view_at views seat).out
    → outs_of leaf (set views seat view) ≡ outs_of leaf views
same_outs leaf views seat view l e = let a = outs_change leaf views seat view l in omega arith

-- the leaves out of every seat, where one view is changed
outs_moved : (shape : Shape) (core : Core) (seat : ℕ) (view : View) (place value : ℕ) → ((leaf : ℕ) → Contains view.out leaf → IsOut shape view leaf) → AreLeavesSound shape core
    → (other : ℕ) (seen : View) (leaf : ℕ) → IsView (moved core seat view place value) other seen → Contains seen.out leaf → IsOut shape seen leaf
outs_moved shape core seat view place value new s other seen leaf v h =
    elim (slice_get-set_cases core.views seat other view seen v.is) [
      | inl p ↦ subst (λ (w : View). Contains w.out leaf → IsOut shape w leaf) p.1 (new leaf) h
      | inr q ↦ s.outs other seen leaf (record { is = q }) h
    ]

-- a step that leaves the leaves, on another word
pub leaves_kept : (shape : Shape) (core : Core) (seat : ℕ) (view : View) (place value : ℕ) → seat < length core.views → view.out ≡ (view_at core.views seat).out
    → ((leaf : ℕ) → leaf < shape.leaves → leaf_place shape leaf ≢ place) → ((leaf : ℕ) → Contains view.out leaf → IsOut shape view leaf)
    → AreLeavesSound shape core → AreLeavesSound shape (moved core seat view place value)
leaves_kept shape core seat view place value l same apart new s =
    let outs : (leaf : ℕ) → outs_of leaf (set core.views seat view) ≡ outs_of leaf core.views = λ leaf. same_outs leaf core.views seat view l (ap (out_count leaf) same) in
    record {
      leaf_words = λ leaf h. get_or-set_other core.words place (leaf_place shape leaf) value 0 (apart leaf h) ∙ s.leaf_words leaf h ∙ sym (outs leaf);
      one_out = λ leaf. let a = outs leaf in let b = s.one_out leaf in omega arith;
      outs = outs_moved shape core seat view place value new s;
    }

-- the same where nothing is out
pub leaves_kept_none : (shape : Shape) (core : Core) (seat : ℕ) (view : View) (place value : ℕ) → seat < length core.views → view.out ≡ (view_at core.views seat).out
    → (view_at core.views seat).out ≡ [] → ((leaf : ℕ) → leaf < shape.leaves → leaf_place shape leaf ≢ place) → AreLeavesSound shape core → AreLeavesSound shape (moved core seat view place value)
leaves_kept_none shape core seat view place value l same none apart s =
    leaves_kept shape core seat view place value l same apart (λ leaf h. absurd (Contains-nil leaf (subst (λ out. Contains out leaf) (same ∙ none) h))) s

-- so a step on the word of a cell where nothing is out keeps the locks
pub cell_step_kept : (shape : Shape) (core : Core) (seat : ℕ) (view : View) (object value : ℕ) → seat < length core.views → AreLocksSound shape core → object < length shape.parents
    → view.out ≡ (view_at core.views seat).out → (view_at core.views seat).out ≡ [] → CellChange shape core seat view object value → AreLocksSound shape (moved core seat view (cell_place shape object) value)
cell_step_kept shape core seat view object value l s m same none change =
    from_parts shape core seat view (cell_place shape object) value (omega arith) s (cells_moved shape core seat view object value s.words l m change s.cells)
    (leaves_kept_none shape core seat view (cell_place shape object) value l same none (λ leaf h. omega arith) s.leaves)

-- a step on the word of a leaf
pub leaves_moved : (shape : Shape) (core : Core) (seat : ℕ) (view : View) (object value : ℕ) → length core.words ≡ word_count shape → seat < length core.views
    → object < shape.leaves → value ≡ outs_of object (set core.views seat view) → outs_of object (set core.views seat view) ≤ 1
    → ((leaf : ℕ) → (leaf ≡ object → ⊥) → out_count leaf view.out ≡ out_count leaf (view_at core.views seat).out)
    → ((leaf : ℕ) → Contains view.out leaf → IsOut shape view leaf) → AreLeavesSound shape core → AreLeavesSound shape (moved core seat view (leaf_place shape object) value)
leaves_moved shape core seat view object value len l m word one others new s = record {
  leaf_words = λ leaf h. elim (cases_eq leaf object) [
    | inl e ↦
        let written = get_or-set_same core.words (leaf_place shape object) value 0 (omega arith) in
        subst (λ x. get_or (set core.words (leaf_place shape object) value) (leaf_place shape x) 0 ≡ outs_of x (set core.views seat view)) (sym e) (written ∙ word)
    | inr n ↦
        get_or-set_other core.words (leaf_place shape object) (leaf_place shape leaf) value 0 (λ q. n (omega arith)) ∙ s.leaf_words leaf h ∙ sym (same_outs leaf core.views seat view l (others leaf n))
  ];
  one_out = λ leaf. elim (cases_eq leaf object) [
    | inl e ↦ subst (λ x. outs_of x (set core.views seat view) ≤ 1) (sym e) one
    | inr n ↦ let same = same_outs leaf core.views seat view l (others leaf n) in let old = s.one_out leaf in omega arith
  ];
  outs = outs_moved shape core seat view (leaf_place shape object) value new s;
}

-- a view with the same chains has a leaf out where that is left to return
pub above_by_chains : (shape : Shape) (view after : View) (leaf : ℕ) → after.chains ≡ view.chains → OwnsAbove shape view leaf → OwnsAbove shape after leaf
above_by_chains shape view after leaf same o = record { cell = o.cell; owned = owns_by_chains shape view after o.cell same o.owned; below = o.below }

pub out_by_chains : (shape : Shape) (view after : View) (leaf : ℕ) → after.chains ≡ view.chains
    → ((running : Running) → after.running ≡ Some running → Contains running.leaves leaf) → IsOut shape view leaf → IsOut shape after leaf
out_by_chains shape view after leaf same left o =
    record { is_leaf = o.is_leaf; above = above_by_chains shape view after leaf same o.above; left = left }
