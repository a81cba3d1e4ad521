-- Whom a density or a force brings together with a member: on one range of leaves all its members, on two those of the other range.
use Rattle.std.proofs.Common.{◌≡◌, ◌≢◌, ℕ, zero, suc, ◌+◌, ◌-◌, ◌<◌, ◌≤◌, ◌==◌, ◌&&◌, ◌||◌, not, Bool, true, false, cond, List, [], ◌++◌, map, filter, length, inl, inr, refl, ap, sym, subst, ◌∙◌, ◌⊎◌, arith}
use Rattle.std.specs.Prelude.{Option, Some, None}
use Rattle.std.specs.List.{All, Contains, flat_map, list_any, range_with_len}
use Rattle.std.proofs.lemmas.Bool.{both_ways, cases_Bool, cases_lt, eqb-true, ne_eqb}
use Rattle.std.proofs.lemmas.List.{get_or_past}
use Rattle.std.proofs.lemmas.List.Elements.{All-append, All-filter, All-map, All-nil}
use Rattle.std.proofs.lemmas.List.Kept.{AllPairs-from_increasing}
use Rattle.lists.proofs.Elements.{All-from_Contains}
use Rattle.lists.proofs.Ranges.{below_from_numbers, range-within}
use Rattle.sph_num.specs.declared.kind.Kind.{Kind}
use Rattle.sph_num.specs.declared.kind.Kind.TheVariants.{Drift, Density, Ghost, Force, Kick}
use Rattle.sph_num.specs.Cover.{Group, is_member, meets}
use Rattle.cell_block.specs.declared.scene.Scene.{Scene}
use Rattle.cell_block.specs.declared.scene.TaskLine.{TaskLine}
use Rattle.cell_block.specs.Scene.{AreLeaves, IsGoodScene, IsOtherRange, IsRange, IsRangeSpan, RangeSpan, drifting_leaves, due_leaves, group_of, is_due_at, leaf_line, line_at, lines_of, members_in, members_in_second, members_of, span_line, touches}
use Rattle.cell_block.proofs.LeafMembers.{Contains-from_flat_map, inside_range, is_member-decides, leaf_in_range, same_leaf, within_range}
use Rattle.cell_block.proofs.SplitSums.{AreDistinct, AreDistinct-append, AreDistinct-from_Rises}

-- the particles that a line brings together with particle i, each once; for a force i itself may stand among them
pub record AreOthers (scene : Scene) (line : TaskLine) (i : ℕ) (others : List ℕ) : Type 0 where
  pub member : i < length scene.start
  pub inside : (j : ℕ) → Contains others j → j < length scene.start
  pub distinct : AreDistinct others
  pub density : (j : ℕ) → is_member others j ≡ meets Density i j (group_of scene line)
  pub force : (j : ℕ) → i ≢ j → is_member others j ≡ meets Force i j (group_of scene line)

-- the members of some leaves, without repetitions
pub AreDistinct-leaf : (scene : Scene) (leaf : ℕ) → AreLeaves scene → AreDistinct (members_of scene leaf)
AreDistinct-leaf scene leaf are =
    elim (cases_lt leaf (length scene.leaves)) [
      | inl inside ↦ AreDistinct-from_Rises (members_of scene leaf) (AllPairs-from_increasing (members_of scene leaf) (are.rising leaf [] inside))
      | inr past ↦ let none : members_of scene leaf ≡ [] = get_or_past scene.leaves leaf [] past in rw none tt
    ]

pub AreDistinct-leaves : (scene : Scene) (first n : ℕ) → AreLeaves scene → AreDistinct (flat_map (members_of scene) (range_with_len first n))
AreDistinct-leaves scene first zero are = tt
AreDistinct-leaves scene first (suc n) are =
    let rest = range_with_len (first + 1) n in
    AreDistinct-append (members_of scene first) (flat_map (members_of scene) rest) (AreDistinct-leaf scene first are) (AreDistinct-leaves scene (first + 1) n are)
    (λ i here later.
    let some = Contains-from_flat_map (members_of scene) rest i later in
    let within = range-within (first + 1) n some.0 some.1 in
    let same = same_leaf scene first some.0 i are here some.2 in
    absurd (omega (arith, within.0)))

-- tests of a pair in one range, and in two
in_one_density : (e b : Bool) → (e ≡ true → b ≡ true) → b ≡ ((not e && (true && b)) || (e && (true && true)))
in_one_density true b itself = itself refl
in_one_density false true itself = refl
in_one_density false false itself = refl

in_one_force : (e b : Bool) → e ≡ false → b ≡ (not e && (true && b))
in_one_force true b other = absurd (both_ways true other refl)
in_one_force false b other = refl

from_first_density : (e a b : Bool) → (e ≡ true → b ≡ false) → b ≡ ((not e && ((true && b) || (a && false))) || (e && (false && true)))
from_first_density true a b itself = itself refl
from_first_density false true true itself = refl
from_first_density false true false itself = refl
from_first_density false false true itself = refl
from_first_density false false false itself = refl

from_first_force : (e a b : Bool) → e ≡ false → b ≡ (not e && ((true && b) || (a && false)))
from_first_force true a b other = absurd (both_ways true other refl)
from_first_force false true true other = refl
from_first_force false true false other = refl
from_first_force false false true other = refl
from_first_force false false false other = refl

from_second_density : (e a b : Bool) → (e ≡ true → a ≡ false) → a ≡ ((not e && ((false && b) || (a && true))) || (e && (false && false)))
from_second_density true a b itself = itself refl
from_second_density false true b itself = refl
from_second_density false false b itself = refl

from_second_force : (e a b : Bool) → e ≡ false → a ≡ (not e && ((false && b) || (a && true)))
from_second_force true a b other = absurd (both_ways true other refl)
from_second_force false true b other = refl
from_second_force false false b other = refl

-- a member is found, and a particle that is none isn't
found : (members : List ℕ) (i : ℕ) → Contains members i → is_member members i ≡ true
found members i at = (is_member-decides members i).1 at

not_found : (members : List ℕ) (i : ℕ) → (Contains members i → ⊥) → is_member members i ≡ false
not_found members i none =
    elim (cases_Bool (is_member members i)) [
      | inl t ↦ absurd (none ((is_member-decides members i).0 t))
      | inr f ↦ f
    ]

-- the group of one range, and of two
abbrev grouped : List ℕ → Option (List ℕ) → Group
grouped first second = record { first = first; second = second }

group_is : (scene : Scene) (line : TaskLine) (second : Option (ℕ × ℕ)) → line.second ≡ second → group_of scene line ≡ grouped (members_in scene line.first) (members_in_second scene second)
group_is scene line second is = ap (λ o. grouped (members_in scene line.first) (members_in_second scene o)) is

-- whom a particle of one range meets, of the first of two, and of the second
density_in_one : (first : List ℕ) (i j : ℕ) → Contains first i → is_member first j ≡ meets Density i j (grouped first None)
density_in_one first i j at =
    let e = i == j in
    let b = is_member first j in
    in_one_density e b (λ same. found first j (rw (eqb-true i j same) at at)) ∙ ap (λ a. (not e && (a && b)) || (e && (true && a))) (sym (found first i at))

force_in_one : (first : List ℕ) (i j : ℕ) → Contains first i → i ≢ j → is_member first j ≡ meets Force i j (grouped first None)
force_in_one first i j at other =
    let e = i == j in
    let b = is_member first j in
    in_one_force e b (ne_eqb i j other) ∙ ap (λ a. not e && (a && b)) (sym (found first i at))

density_from_first : (first second : List ℕ) (i j : ℕ) → Contains first i → (Contains second i → ⊥) → is_member second j ≡ meets Density i j (grouped first (Some second))
density_from_first first second i j at none =
    let e = i == j in
    let a = is_member first j in
    let b = is_member second j in
    from_first_density e a b (λ same. not_found second j (rw (eqb-true i j same) at none))
    ∙ ap (λ m. (not e && ((m && b) || (a && false))) || (e && (false && m))) (sym (found first i at))
    ∙ ap (λ m. (not e && ((is_member first i && b) || (a && m))) || (e && (false && is_member first i))) (sym (not_found second i none))

force_from_first : (first second : List ℕ) (i j : ℕ) → Contains first i → (Contains second i → ⊥) → i ≢ j → is_member second j ≡ meets Force i j (grouped first (Some second))
force_from_first first second i j at none other =
    let e = i == j in
    let a = is_member first j in
    let b = is_member second j in
    from_first_force e a b (ne_eqb i j other)
    ∙ ap (λ m. not e && ((m && b) || (a && false))) (sym (found first i at))
    ∙ ap (λ m. not e && ((is_member first i && b) || (a && m))) (sym (not_found second i none))

density_from_second : (first second : List ℕ) (i j : ℕ) → Contains second i → (Contains first i → ⊥) → is_member first j ≡ meets Density i j (grouped first (Some second))
density_from_second first second i j at none =
    let e = i == j in
    let a = is_member first j in
    let b = is_member second j in
    from_second_density e a b (λ same. not_found first j (rw (eqb-true i j same) at none))
    ∙ ap (λ m. (not e && ((m && b) || (a && true))) || (e && (false && m))) (sym (not_found first i none))
    ∙ ap (λ m. (not e && ((is_member first i && b) || (a && m))) || (e && (false && is_member first i))) (sym (found second i at))

force_from_second : (first second : List ℕ) (i j : ℕ) → Contains second i → (Contains first i → ⊥) → i ≢ j → is_member first j ≡ meets Force i j (grouped first (Some second))
force_from_second first second i j at none other =
    let e = i == j in
    let a = is_member first j in
    let b = is_member second j in
    from_second_force e a b (ne_eqb i j other)
    ∙ ap (λ m. not e && ((m && b) || (a && true))) (sym (not_found first i none))
    ∙ ap (λ m. not e && ((is_member first i && b) || (a && m))) (sym (found second i at))

-- on one range all of its members are brought together with each of them
pub others_of_one : (scene : Scene) (task i : ℕ) → IsGoodScene scene → (line_at scene task).second ≡ None → Contains (members_in scene (line_at scene task).first) i
    → AreOthers scene (line_at scene task) i (members_in scene (line_at scene task).first)
others_of_one scene task i good alone at =
    let line = line_at scene task in
    let first = members_in scene line.first in
    let group = group_is scene line None alone in
    record {
      member = inside_range scene line.first i good.leaves at;
      inside = λ j c. inside_range scene line.first j good.leaves c;
      distinct = AreDistinct-leaves scene line.first.0 (line.first.1 - line.first.0) good.leaves;
      density = λ j. density_in_one first i j at ∙ ap (meets Density i j) (sym group);
      force = λ j other. force_in_one first i j at other ∙ ap (meets Force i j) (sym group);
    }

-- the leaves that pass a test, or none of them
some_leaves : (b : Bool) (p : ℕ → Bool) (n : ℕ) → All (λ leaf. leaf < n) (cond b (filter p (range_with_len 0 n)) [])
some_leaves true p n = All-filter p (λ leaf. leaf < n) (range_with_len 0 n) (All-from_Contains (λ leaf. leaf < n) (range_with_len 0 n) (below_from_numbers n))
some_leaves false p n = All-nil (λ leaf. leaf < n)

-- the ranges of a task of a good scene are ranges of its leaves, and have none in common
abbrev pub HasRanges : Scene → TaskLine → Type 0
HasRanges scene line = IsRange (length scene.leaves) line.first × IsOtherRange (length scene.leaves) line.first line.second

good_lines : (scene : Scene) (spans : List RangeSpan) → All (IsRangeSpan (length scene.leaves)) spans → All (HasRanges scene) (lines_of scene spans)
good_lines scene spans are =
    let good = HasRanges scene in
    let of_leaves = λ (kind : Kind) (leaves : List ℕ) (below : All (λ leaf. leaf < length scene.leaves) leaves).
    All-map good (leaf_line kind) leaves (λ k d inside. (record { some = omega arith; within = omega (arith, below k d inside) }, tt))
    in
    let of_spans = λ (kind : Kind). All-map good (span_line kind) spans (λ k d inside. ((are k d inside).first, (are k d inside).second)) in
    let due = some_leaves true (λ leaf. list_any (is_due_at scene) (members_of scene leaf)) (length scene.leaves) in
    let drifting = some_leaves scene.drift (λ leaf. list_any (λ span. touches (span_line Density span) leaf) spans) (length scene.leaves) in
    let drifts = map (leaf_line Drift) (drifting_leaves scene spans) in
    let densities = map (span_line Density) spans in
    let ghosts = map (leaf_line Ghost) (due_leaves scene) in
    let forces = map (span_line Force) spans in
    let kicks = map (leaf_line Kick) (due_leaves scene) in
    All-append good (drifts ++ densities ++ ghosts ++ forces) kicks
    (All-append good (drifts ++ densities ++ ghosts) forces
    (All-append good (drifts ++ densities) ghosts
    (All-append good drifts densities (of_leaves Drift (drifting_leaves scene spans) drifting) (of_spans Density))
    (of_leaves Ghost (due_leaves scene) due))
    (of_spans Force))
    (of_leaves Kick (due_leaves scene) due)

pub good_line : (scene : Scene) (task : ℕ) → IsGoodScene scene → task < length scene.tasks → HasRanges scene (line_at scene task)
good_line scene task good inside = subst (All (HasRanges scene)) (sym good.lines) (good_lines scene good.spans good.ranges) task (record { kind = Drift; first = (0, 0); second = None }) inside

neither_some : (x : ℕ × ℕ) → None ≡ Some x → ⊥
neither_some x e = cc

ranges_apart : (scene : Scene) (task : ℕ) (second : ℕ × ℕ) → IsGoodScene scene → (line_at scene task).second ≡ Some second → ((line_at scene task).first.1 ≤ second.0) ⊎ (second.1 ≤ (line_at scene task).first.0)
ranges_apart scene task second good two =
    elim (cases_lt task (length scene.tasks)) [
      | inl inside ↦ (subst (λ o. IsOtherRange (length scene.leaves) (line_at scene task).first o) two (good_line scene task good inside).1).1
      | inr past ↦ let none : (line_at scene task).second ≡ None = ap (λ (line : TaskLine). line.second) (get_or_past scene.tasks task _ past) in absurd (neither_some second (sym none ∙ two))
    ]

pub members_apart : (scene : Scene) (task : ℕ) (second : ℕ × ℕ) (i : ℕ) → IsGoodScene scene → (line_at scene task).second ≡ Some second → Contains (members_in scene (line_at scene task).first) i → Contains (members_in scene second) i → ⊥
members_apart scene task second i good two at at' =
    let first = (line_at scene task).first in
    let here = leaf_in_range scene first i at in
    let there = leaf_in_range scene second i at' in
    let same = same_leaf scene here.0 there.0 i good.leaves here.2 there.2 in
    let in_first = within_range first here.0 here.1 in
    let in_second = within_range second there.0 there.1 in
    elim (ranges_apart scene task second good two) [
      | inl before ↦ omega (arith, in_first.1, in_second.0)
      | inr behind ↦ omega (arith, in_first.0, in_second.1)
    ]

-- on two ranges those of the other one
pub others_of_first : (scene : Scene) (task i : ℕ) (second : ℕ × ℕ) → IsGoodScene scene → (line_at scene task).second ≡ Some second → Contains (members_in scene (line_at scene task).first) i
    → AreOthers scene (line_at scene task) i (members_in scene second)
others_of_first scene task i second good two at =
    let line = line_at scene task in
    let first = members_in scene line.first in
    let others = members_in scene second in
    let none = members_apart scene task second i good two at in
    let group = group_is scene line (Some second) two in
    record {
      member = inside_range scene line.first i good.leaves at;
      inside = λ j c. inside_range scene second j good.leaves c;
      distinct = AreDistinct-leaves scene second.0 (second.1 - second.0) good.leaves;
      density = λ j. density_from_first first others i j at none ∙ ap (meets Density i j) (sym group);
      force = λ j other. force_from_first first others i j at none other ∙ ap (meets Force i j) (sym group);
    }

pub others_of_second : (scene : Scene) (task i : ℕ) (second : ℕ × ℕ) → IsGoodScene scene → (line_at scene task).second ≡ Some second → Contains (members_in scene second) i
    → AreOthers scene (line_at scene task) i (members_in scene (line_at scene task).first)
others_of_second scene task i second good two at =
    let line = line_at scene task in
    let others = members_in scene line.first in
    let own = members_in scene second in
    let none : Contains others i → ⊥ = λ c. members_apart scene task second i good two c at in
    let group = group_is scene line (Some second) two in
    record {
      member = inside_range scene second i good.leaves at;
      inside = λ j c. inside_range scene line.first j good.leaves c;
      distinct = AreDistinct-leaves scene line.first.0 (line.first.1 - line.first.0) good.leaves;
      density = λ j. density_from_second others own i j at none ∙ ap (meets Density i j) (sym group);
      force = λ j other. force_from_second others own i j at none other ∙ ap (meets Force i j) (sym group);
    }
