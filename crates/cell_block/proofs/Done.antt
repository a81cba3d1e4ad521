-- A task more is done: which tests on the done tasks change.
use Rattle.std.proofs.Common.{◌≡◌, ℕ, ◌&&◌, ◌||◌, if◌then◌else◌, Bool, true, false, List, [], ◌∷◌, map, length, inl, inr, refl, ap, sym, ◌∙◌, ◌⊎◌}
use Rattle.std.specs.List.{Contains, list_any, range_with_len}
use Rattle.std.proofs.lemmas.Bool.{both_ways, cases_Bool}
use Rattle.std.proofs.lemmas.Bool.Decides.{same_from_decides}
use Rattle.std.proofs.lemmas.List.Elements.{filter_agree}
use Rattle.lists.proofs.Elements.{Contains-head, Contains-later, Contains-nil, cases_Contains-cons}
use Rattle.sph_num.specs.declared.kind.Kind.{Kind}
use Rattle.sph_num.specs.declared.kind.Kind.TheVariants.{Drift, Density, Ghost, Force, Kick}
use Rattle.sph_num.specs.Cover.{meets}
use Rattle.sph_num.specs.Kinds.{same_kind}
use Rattle.cell_block.specs.declared.scene.Scene.{Scene}
use Rattle.cell_block.specs.Blocks.{AreDoneWith}
use Rattle.cell_block.specs.Content.{is_done_on, met}
use Rattle.cell_block.specs.Scene.{group_of, line_at, particle_at, touches}

-- some element of a list passes a test, or none does
pub list_any-from_Contains : {X : Type 0} (p : X → Bool) (xs : List X) (x : X) → Contains xs x → p x ≡ true → list_any p xs ≡ true
list_any-from_Contains p [] x at passes = absurd (Contains-nil x at)
list_any-from_Contains p (y ∷ ys) x at passes =
    elim (cases_Bool (p y)) [
      | inl here ↦ ap (λ b. b || list_any p ys) here
      | inr not_here ↦
          ap (λ b. b || list_any p ys) not_here
          ∙ cases_Contains-cons (list_any p ys ≡ true) y ys x (λ e. absurd (both_ways (p y) not_here (ap p e ∙ passes))) (λ later. list_any-from_Contains p ys x later passes) at
    ]

pub Contains-from_list_any : {X : Type 0} (p : X → Bool) (xs : List X) → list_any p xs ≡ true → (x : X) × Contains xs x × (p x ≡ true)
Contains-from_list_any p [] some = absurd (both_ways false refl some)
Contains-from_list_any p (y ∷ ys) some =
    elim (cases_Bool (p y)) [
      | inl here ↦ (y, Contains-head y ys, here)
      | inr not_here ↦
          let rest = Contains-from_list_any p ys (sym (ap (λ b. b || list_any p ys) not_here) ∙ some) in
          (rest.0, Contains-later y ys rest.0 rest.1, rest.2)
    ]

-- two kinds are one
pub same_kind_itself : (kind : Kind) → same_kind kind kind ≡ true
same_kind_itself Drift = refl
same_kind_itself Density = refl
same_kind_itself Ghost = refl
same_kind_itself Force = refl
same_kind_itself Kick = refl

pub same_kind_of : (kind kind' : Kind) → kind ≡ kind' → same_kind kind kind' ≡ true
same_kind_of kind kind' same = ap (λ k. same_kind k kind') same ∙ same_kind_itself kind'

-- a test of the done tasks, where one more is done
pub either_true : (a b : Bool) → (a ≡ true) ⊎ (b ≡ true) → (a || b) ≡ true
either_true true b some = refl
either_true false b some = elim some [ inl t ↦ absurd (both_ways false refl t) | inr t ↦ t ]

pub which_true : (a b : Bool) → (a || b) ≡ true → (a ≡ true) ⊎ (b ≡ true)
which_true true b t = inl refl
which_true false b t = inr t

pub list_any-with : (p : ℕ → Bool) (done done' : List ℕ) (task : ℕ) → AreDoneWith done task done' → list_any p done' ≡ (list_any p done || p task)
list_any-with p done done' task more =
    same_from_decides (list_any p done') (list_any p done || p task) (
      λ t.
          let some = Contains-from_list_any p done' t in
          either_true (list_any p done) (p task)
          (elim ((more some.0).0 some.1) [ inl old ↦ inl (list_any-from_Contains p done some.0 old some.2) | inr e ↦ inr (sym (ap p e) ∙ some.2) ]),
      λ t. elim (which_true (list_any p done) (p task) t) [
        | inl old ↦ let some = Contains-from_list_any p done old in list_any-from_Contains p done' some.0 ((more some.0).1 (inl some.1)) some.2
        | inr new ↦ list_any-from_Contains p done' task ((more task).1 (inr refl)) new
      ],
    )
    (λ t. t, λ t. t)

or_false : (a b : Bool) → b ≡ false → (a || b) ≡ a
or_false true b fails = refl
or_false false b fails = fails

or_true : (a b : Bool) → b ≡ true → (a || b) ≡ true
or_true a b t = either_true a b (inr t)

neither : (a b : Bool) → a ≡ false → (a && b) ≡ false
neither a b fails = ap (λ x. x && b) fails

nor_second : (a b : Bool) → b ≡ false → (a && b) ≡ false
nor_second true b fails = fails
nor_second false b fails = refl

pub both_true : (a b : Bool) → a ≡ true → b ≡ true → (a && b) ≡ true
both_true a b s t = ap (λ x. x && b) s ∙ t

-- the one of two that a test chooses
pub chosen : {X : Type 0} (b : Bool) (x y : X) → b ≡ true → (if b then x else y) ≡ x
chosen true x y is = refl
chosen false x y is = absurd (both_ways false refl is)

pub not_chosen : {X : Type 0} (b : Bool) (x y : X) → b ≡ false → (if b then x else y) ≡ y
not_chosen true x y is = absurd (both_ways true is refl)
not_chosen false x y is = refl

-- a task of another kind changes nothing of this kind; nor does one that touches other leaves
pub is_done_on_other_kind : (scene : Scene) (kind : Kind) (leaf task : ℕ) (done done' : List ℕ) → AreDoneWith done task done' → same_kind (line_at scene task).kind kind ≡ false
    → is_done_on scene kind leaf done' ≡ is_done_on scene kind leaf done
is_done_on_other_kind scene kind leaf task done done' more other =
    let p = λ (t : ℕ). same_kind (line_at scene t).kind kind && touches (line_at scene t) leaf in
    list_any-with p done done' task more ∙ or_false (list_any p done) (p task) (neither (same_kind (line_at scene task).kind kind) (touches (line_at scene task) leaf) other)

pub is_done_on_other_leaf : (scene : Scene) (kind : Kind) (leaf task : ℕ) (done done' : List ℕ) → AreDoneWith done task done' → touches (line_at scene task) leaf ≡ false
    → is_done_on scene kind leaf done' ≡ is_done_on scene kind leaf done
is_done_on_other_leaf scene kind leaf task done done' more other =
    let p = λ (t : ℕ). same_kind (line_at scene t).kind kind && touches (line_at scene t) leaf in
    list_any-with p done done' task more ∙ or_false (list_any p done) (p task) (nor_second (same_kind (line_at scene task).kind kind) (touches (line_at scene task) leaf) other)

-- a task of this kind that touches the leaf is done there
pub is_done_on_leaf : (scene : Scene) (kind : Kind) (leaf task : ℕ) (done done' : List ℕ) → AreDoneWith done task done' → (line_at scene task).kind ≡ kind → touches (line_at scene task) leaf ≡ true
    → is_done_on scene kind leaf done' ≡ true
is_done_on_leaf scene kind leaf task done done' more is touched =
    let p = λ (t : ℕ). same_kind (line_at scene t).kind kind && touches (line_at scene t) leaf in
    list_any-with p done done' task more ∙ or_true (list_any p done) (p task) (both_true (same_kind (line_at scene task).kind kind) (touches (line_at scene task) leaf) (same_kind_of (line_at scene task).kind kind is) touched)

-- whom a particle meets, where the task is of another kind or doesn't meet the particle
met_same : (scene : Scene) (kind : Kind) (task i : ℕ) (done done' : List ℕ) → AreDoneWith done task done'
    → ((j : ℕ) → (same_kind (line_at scene task).kind kind && meets kind i j (group_of scene (line_at scene task))) ≡ false) → met scene kind done' i ≡ met scene kind done i
met_same scene kind task i done done' more apart =
    let p = λ (j t : ℕ). same_kind (line_at scene t).kind kind && meets kind i j (group_of scene (line_at scene t)) in
    ap (map (particle_at scene))
    (filter_agree (λ j. list_any (p j) done') (λ j. list_any (p j) done)
    (λ j. list_any-with (p j) done done' task more ∙ or_false (list_any (p j) done) (p j task) (apart j)) (range_with_len 0 (length scene.start)))

pub met_other_kind : (scene : Scene) (kind : Kind) (task i : ℕ) (done done' : List ℕ) → AreDoneWith done task done' → same_kind (line_at scene task).kind kind ≡ false
    → met scene kind done' i ≡ met scene kind done i
met_other_kind scene kind task i done done' more other =
    met_same scene kind task i done done' more (λ j. neither (same_kind (line_at scene task).kind kind) (meets kind i j (group_of scene (line_at scene task))) other)

pub met_unmet : (scene : Scene) (kind : Kind) (task i : ℕ) (done done' : List ℕ) → AreDoneWith done task done' → ((j : ℕ) → meets kind i j (group_of scene (line_at scene task)) ≡ false)
    → met scene kind done' i ≡ met scene kind done i
met_unmet scene kind task i done done' more apart =
    met_same scene kind task i done done' more (λ j. nor_second (same_kind (line_at scene task).kind kind) (meets kind i j (group_of scene (line_at scene task))) (apart j))
