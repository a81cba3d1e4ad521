-- A leaf has just one kick: none is done on a block that is ready for one.
use Rattle.std.proofs.Common.{◌≡◌, ℕ, zero, suc, ◌+◌, ◌<◌, ◌&&◌, ◌||◌, cond, Bool, true, false, List, [], ◌∷◌, ◌++◌, length, map, filter, get_or, Contains, inl, inr, subst, refl, sym, ap, ◌∙◌, arith}
use Rattle.std.specs.Prelude.{None}
use Rattle.std.specs.List.{list_any, range_with_len}
use Rattle.std.proofs.lemmas.Bool.{both_ways, cases_Bool, cases_lt}
use Rattle.std.proofs.lemmas.List.{get_or_default, get_or_past, get_or-map, length-map}
use Rattle.std.proofs.lemmas.List.Elements.{Contains-append_cases}
use Rattle.lists.proofs.Elements.{Contains-from_filter, Contains-head, Contains-later}
use Rattle.lists.proofs.Ranges.{range-within}
use Rattle.sph_num.specs.declared.kind.Kind.{Kind}
use Rattle.sph_num.specs.declared.kind.Kind.TheVariants.{Drift, Density, Ghost, Force, Kick}
use Rattle.sph_num.specs.Kinds.{same_kind}
use Rattle.cell_block.specs.declared.rows.BlockRows.{BlockRows}
use Rattle.cell_block.specs.declared.scene.Scene.{Scene}
use Rattle.cell_block.specs.declared.scene.TaskLine.{TaskLine}
use Rattle.cell_block.specs.Blocks.{IsReady, done_of}
use Rattle.cell_block.specs.Content.{is_done_on}
use Rattle.cell_block.specs.Scene.{IsGoodScene, RangeSpan, due_leaves, is_due_at, leaf_line, leaf_numbers, line_at, members_of, touches, is_in}
use Rattle.cell_block.proofs.Done.{Contains-from_list_any, same_kind_of}
use Rattle.cell_block.specs.Tasks.{IsTask}
use Rattle.cell_block.proofs.LeafMembers.{within_range}
use Rattle.cell_block.proofs.Lines.{both_tests, kind_of_same}
use Rattle.cell_block.proofs.Order.{of_leaf, of_span, on_leaf, part_of, task_part}
use Rattle.cell_block.proofs.SplitSums.{AreDistinct}

distinct_filter : (p : ℕ → Bool) (xs : List ℕ) → AreDistinct xs → AreDistinct (filter p xs)
distinct_filter p [] distinct = distinct
distinct_filter p (x ∷ xs) distinct =
    let kept = λ (b : Bool). cond b (x ∷ filter p xs) (filter p xs) in
    elim (cases_Bool (p x)) [
      | inl here ↦ subst AreDistinct (sym (ap kept here)) ((λ at. distinct.0 (Contains-from_filter p xs x at)), distinct_filter p xs distinct.1)
      | inr not_here ↦ subst AreDistinct (sym (ap kept not_here)) (distinct_filter p xs distinct.1)
    ]

distinct_range : (first n : ℕ) → AreDistinct (range_with_len first n)
distinct_range first zero = tt
distinct_range first (suc n) = ((λ at. let within = range-within (first + 1) n first at in absurd (omega (arith, within.0))), distinct_range (first + 1) n)

-- an element has one place
one_place : (xs : List ℕ) → AreDistinct xs → (a b : ℕ) → a < length xs → b < length xs → get_or xs a 0 ≡ get_or xs b 0 → a ≡ b
one_place [] distinct a b low low' same = absurd (omega arith)
one_place (x ∷ xs) distinct zero zero low low' same = refl
one_place (x ∷ xs) distinct zero (suc b) low low' same = let inside : b < length xs = omega arith in absurd (distinct.0 (b, inside, get_or_default xs b x 0 inside ∙ sym same))
one_place (x ∷ xs) distinct (suc a) zero low low' same = let inside : a < length xs = omega arith in absurd (distinct.0 (a, inside, get_or_default xs a x 0 inside ∙ same))
one_place (x ∷ xs) distinct (suc a) (suc b) low low' same = ap suc (one_place xs distinct.1 a b (omega arith) (omega arith) same)

-- a line has one place among the tasks
abbrev only_at : List TaskLine → TaskLine → Type 0
only_at lines line = (a b : ℕ) (d : TaskLine) → a < length lines → b < length lines → get_or lines a d ≡ line → get_or lines b d ≡ line → a ≡ b

behind : (xs ys : List TaskLine) (line : TaskLine) → (Contains xs line → ⊥) → only_at ys line → only_at (xs ++ ys) line
behind [] ys line none only a b d low low' first second = only a b d low low' first second
behind (x ∷ xs) ys line none only zero b d low low' first second = absurd (none (subst (Contains (x ∷ xs)) first (Contains-head x xs)))
behind (x ∷ xs) ys line none only (suc a) zero d low low' first second = absurd (none (subst (Contains (x ∷ xs)) second (Contains-head x xs)))
behind (x ∷ xs) ys line none only (suc a) (suc b) d low low' first second =
    ap suc (behind xs ys line (λ at. none (Contains-later x xs line at)) only a b d (omega arith) (omega arith) first second)

only_leaf_line : (kind : Kind) (leaves : List ℕ) (leaf : ℕ) → AreDistinct leaves → only_at (map (leaf_line kind) leaves) (leaf_line kind leaf)
only_leaf_line kind leaves leaf distinct = λ a b d low low' first second.
    let long = length-map leaves (leaf_line kind) in
    let low_a : a < length leaves = omega (arith, long, low) in
    let low_b : b < length leaves = omega (arith, long, low') in
    let is = λ (k : ℕ) (inside : k < length leaves) (e : get_or (map (leaf_line kind) leaves) k d ≡ leaf_line kind leaf). ap (λ (l : TaskLine). l.first.0) (sym (get_or-map (leaf_line kind) leaves k 0 d inside) ∙ e) in
    one_place leaves distinct a b low_a low_b (is a low_a first ∙ sym (is b low_b second))

no_kick : (kind : Kind) → same_kind kind Kick ≡ false → kind ≡ Kick → ⊥
no_kick kind other same = both_ways (same_kind kind Kick) other (same_kind_of kind Kick same)

no_kick_before : (scene : Scene) (spans : List RangeSpan) (leaf : ℕ) → Contains (part_of scene spans Drift ++ part_of scene spans Density ++ part_of scene spans Ghost ++ part_of scene spans Force) (leaf_line Kick leaf) → ⊥
no_kick_before scene spans leaf at =
    let drifts = part_of scene spans Drift in
    let densities = part_of scene spans Density in
    let ghosts = part_of scene spans Ghost in
    let line = leaf_line Kick leaf in
    elim (Contains-append_cases (drifts ++ densities ++ ghosts) (part_of scene spans Force) line at) [
      | inr force ↦ no_kick Force refl (of_span Force spans line force)
      | inl three ↦ elim (Contains-append_cases (drifts ++ densities) ghosts line three) [
        | inr made ↦ no_kick Ghost refl (of_leaf Ghost (due_leaves scene) line made)
        | inl two ↦ elim (Contains-append_cases drifts densities line two) [
          | inl drift ↦ no_kick Drift refl (let some = on_leaf Drift _ line drift in ap (λ (l : TaskLine). l.kind) (sym some.is))
          | inr density ↦ no_kick Density refl (of_span Density spans line density)
        ]
      ]
    ]

only_kick : (scene : Scene) (good : IsGoodScene scene) (leaf : ℕ) → only_at scene.tasks (leaf_line Kick leaf)
only_kick scene good leaf =
    let leaves = due_leaves scene in
    let distinct = distinct_filter (λ l. list_any (is_due_at scene) (members_of scene l)) (leaf_numbers scene) (distinct_range 0 (length scene.leaves)) in
    subst (λ (lines : List TaskLine). only_at lines (leaf_line Kick leaf)) (sym good.lines)
    (behind (part_of scene good.spans Drift ++ part_of scene good.spans Density ++ part_of scene good.spans Ghost ++ part_of scene good.spans Force) (part_of scene good.spans Kick) (leaf_line Kick leaf) (no_kick_before scene good.spans leaf)
    (only_leaf_line Kick leaves leaf distinct))

first_test : (a : Bool) → (a || false) ≡ true → a ≡ true
first_test true t = refl
first_test false t = t

touched_leaf : (own leaf : ℕ) → touches (leaf_line Kick own) leaf ≡ true → own ≡ leaf
touched_leaf own leaf touched = let within = within_range (own, own + 1) leaf (first_test (is_in (own, own + 1) leaf) touched) in omega (arith, within.0, within.1)

inside_from_kind : (scene : Scene) (task : ℕ) → (line_at scene task).kind ≡ Kick → task < length scene.tasks
inside_from_kind scene task is =
    elim (cases_lt task (length scene.tasks)) [
      | inl inside ↦ inside
      | inr past ↦ absurd (no_kick Drift refl (sym (ap (λ (l : TaskLine). l.kind) (get_or_past scene.tasks task (record { kind = Drift; first = (0, 0); second = None }) past)) ∙ is))
    ]

-- a kick that touches a leaf is the leaf's
kick_line : (scene : Scene) (good : IsGoodScene scene) (task leaf : ℕ) → IsTask scene Kick task → touches (line_at scene task) leaf ≡ true → line_at scene task ≡ leaf_line Kick leaf
kick_line scene good task leaf is touched =
    let line = line_at scene task in
    let on = on_leaf Kick (due_leaves scene) line (task_part scene good Kick task is) in
    let here : touches (leaf_line Kick line.first.0) leaf ≡ true = sym (ap (λ (l : TaskLine). touches l leaf) on.is) ∙ touched in
    on.is ∙ ap (leaf_line Kick) (touched_leaf line.first.0 leaf here)

-- so a block that is ready for its kick isn't kicked
pub not_kicked : (scene : Scene) (good : IsGoodScene scene) (task leaf : ℕ) (block : BlockRows) → IsTask scene Kick task → touches (line_at scene task) leaf ≡ true → IsReady scene task leaf block → is_done_on scene Kick leaf (done_of block) ≡ false
not_kicked scene good task leaf block is touched ready =
    let p = λ (t : ℕ). same_kind (line_at scene t).kind Kick && touches (line_at scene t) leaf in
    elim (cases_Bool (is_done_on scene Kick leaf (done_of block))) [
      | inr none ↦ none
      | inl some_done ↦
          let some = Contains-from_list_any p (done_of block) some_done in
          let other = some.0 in
          let tests = both_tests (same_kind (line_at scene other).kind Kick) (touches (line_at scene other) leaf) some.2 in
          let kind = kind_of_same (line_at scene other).kind Kick tests.0 in
          let inside = inside_from_kind scene other kind in
          let same = only_kick scene good leaf other task _ inside is.number (kick_line scene good other leaf (record { number = inside; is_kind = kind }) tests.1) (kick_line scene good task leaf is touched) in
          absurd (ready.not_done (subst (Contains (done_of block)) same some.1))
    ]
