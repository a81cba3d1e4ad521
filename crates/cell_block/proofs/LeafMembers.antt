-- Who stands in which leaf of a good scene, and in which range of leaves.
use Rattle.std.proofs.Common.{◌≡◌, ℕ, ◌-◌, ◌<◌, ◌≤◌, ◌==◌, true, List, [], ◌∷◌, length, inl, inr, refl, sym, ◌∙◌, arith}
use Rattle.std.specs.Bool.{Decides}
use Rattle.std.specs.List.{Contains, flat_map, range_with_len}
use Rattle.std.proofs.lemmas.Bool.{cases_lt}
use Rattle.std.proofs.lemmas.Bool.Decides.{Decides-eqb, nat_tests}
use Rattle.std.proofs.lemmas.List.{get_or_past}
use Rattle.std.proofs.lemmas.Option.{slice_get-get_or}
use Rattle.std.proofs.lemmas.List.Elements.{All-contains, Contains-append_cases}
use Rattle.lists.proofs.Elements.{Contains-flat_map, Contains-head, Contains-later, Contains-nil}
use Rattle.lists.proofs.Ranges.{Contains-range, range-within}
use Rattle.sph_num.specs.Cover.{is_member}
use Rattle.cell_block.specs.declared.scene.Scene.{Scene}
use Rattle.cell_block.specs.Scene.{AreLeaves, is_in, members_in, members_of}
use Rattle.cell_block.proofs.Done.{Contains-from_list_any, list_any-from_Contains}

-- the test of membership
pub is_member-decides : (members : List ℕ) (i : ℕ) → Decides (is_member members i) (Contains members i)
is_member-decides members i = (
  λ t. let some = Contains-from_list_any (λ member. member == i) members t in rw ((Decides-eqb some.0 i).0 some.2) at some.1,
  λ at. list_any-from_Contains (λ member. member == i) members i at ((Decides-eqb i i).1 refl),
)

-- what a list joined of parts has stands in a part
pub Contains-from_flat_map : {X Y : Type 0} (f : X → List Y) (xs : List X) (y : Y) → Contains (flat_map f xs) y → (x : X) × Contains xs x × Contains (f x) y
Contains-from_flat_map f [] y at = absurd (Contains-nil y at)
Contains-from_flat_map f (x ∷ xs) y at =
    elim (Contains-append_cases (f x) (flat_map f xs) y at) [
      | inl here ↦ (x, Contains-head x xs, here)
      | inr later ↦ let rest = Contains-from_flat_map f xs y later in (rest.0, Contains-later x xs rest.0 rest.1, rest.2)
    ]

-- a member of a leaf stands in a leaf of the scene, and is one of its particles
pub leaf_of_member : (scene : Scene) (leaf i : ℕ) → Contains (members_of scene leaf) i → leaf < length scene.leaves
leaf_of_member scene leaf i at =
    elim (cases_lt leaf (length scene.leaves)) [
      | inl inside ↦ inside
      | inr past ↦ absurd (Contains-nil i (rw (get_or_past scene.leaves leaf [] past) at at))
    ]

pub member_inside : (scene : Scene) (leaf i : ℕ) → AreLeaves scene → Contains (members_of scene leaf) i → i < length scene.start
member_inside scene leaf i are at =
    All-contains (λ j. j < length scene.start) (members_of scene leaf) i (are.members leaf [] (leaf_of_member scene leaf i at)) at

-- it stands in no other leaf
pub same_leaf : (scene : Scene) (a b i : ℕ) → AreLeaves scene → Contains (members_of scene a) i → Contains (members_of scene b) i → a ≡ b
same_leaf scene a b i are in_a in_b =
    let one = are.one_leaf i (member_inside scene a i are in_a) in
    one.no_other a (members_of scene a) (slice_get-get_or scene.leaves a [] (leaf_of_member scene a i in_a)) in_a
    ∙ sym (one.no_other b (members_of scene b) (slice_get-get_or scene.leaves b [] (leaf_of_member scene b i in_b)) in_b)

-- a range of leaves, and the tests of it
pub within_range : (range : ℕ × ℕ) (leaf : ℕ) → is_in range leaf ≡ true → (range.0 ≤ leaf) × (leaf < range.1)
within_range range leaf inside = (grind (arith, nat_tests), grind (arith, nat_tests))

pub in_range : (range : ℕ × ℕ) (leaf : ℕ) → range.0 ≤ leaf → leaf < range.1 → is_in range leaf ≡ true
in_range range leaf low high = grind (arith, nat_tests)

-- the members of the leaves of a range
pub Contains-members_in : (scene : Scene) (range : ℕ × ℕ) (leaf i : ℕ) → is_in range leaf ≡ true → Contains (members_of scene leaf) i → Contains (members_in scene range) i
Contains-members_in scene range leaf i inside at =
    let within = within_range range leaf inside in
    Contains-flat_map (members_of scene) (range_with_len range.0 (range.1 - range.0)) leaf i (Contains-range range.0 (range.1 - range.0) leaf within.0 (omega (arith, within.0, within.1))) at

pub leaf_in_range : (scene : Scene) (range : ℕ × ℕ) (i : ℕ) → Contains (members_in scene range) i → (leaf : ℕ) × (is_in range leaf ≡ true) × Contains (members_of scene leaf) i
leaf_in_range scene range i at =
    let some = Contains-from_flat_map (members_of scene) (range_with_len range.0 (range.1 - range.0)) i at in
    let within = range-within range.0 (range.1 - range.0) some.0 some.1 in
    (some.0, in_range range some.0 within.0 (omega (arith, within.0, within.1)), some.2)

pub inside_range : (scene : Scene) (range : ℕ × ℕ) (i : ℕ) → AreLeaves scene → Contains (members_in scene range) i → i < length scene.start
inside_range scene range i are at = let some = leaf_in_range scene range i at in member_inside scene some.0 i are some.2

-- the leaf of a member lies in the range in which the member stands
pub leaf_is_in : (scene : Scene) (range : ℕ × ℕ) (leaf i : ℕ) → AreLeaves scene → Contains (members_of scene leaf) i → Contains (members_in scene range) i → is_in range leaf ≡ true
leaf_is_in scene range leaf i are at within =
    let some = leaf_in_range scene range i within in
    rw (same_leaf scene leaf some.0 i are at some.2) some.1
