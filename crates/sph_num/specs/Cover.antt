-- Which pairs of particles a task meets, and when tasks meet just once each pair that they have to.
use Rattle.std.specs.Prelude.{◌≡◌, ◌≢◌, ℕ, ◌<◌, ◌⊎◌, ◌==◌, ◌&&◌, ◌||◌, not, Bool, false, List, slice_get, Option, Some, None, is_none, Contains}
use Rattle.std.specs.List.{list_any}
use Rattle.sph_num.specs.declared.kind.Kind.{Kind}
use Rattle.sph_num.specs.declared.kind.Kind.TheVariants.{Density, Force}

-- the members of a task's one cell, or of its two
pub record Group : Type 0 where
  pub first : List ℕ
  pub second : Option (List ℕ)

-- both in the one cell, or one in each of the two
abbrev pub MeetIn : List ℕ → Option (List ℕ) → ℕ → ℕ → Type 0
MeetIn first None i j = Contains first i × Contains first j
MeetIn first (Some second) i j = (Contains first i × Contains second j) ⊎ (Contains first j × Contains second i)

-- two different particles meet
abbrev pub Meets : ℕ → ℕ → Group → Type 0
Meets i j group = (i ≢ j) × MeetIn group.first group.second i j

-- a particle meets itself in the one cell, for its own part of its density; a force has no such part
pub record MeetsItself (i : ℕ) (group : Group) : Type 0 where
  pub one_cell : group.second ≡ None
  pub member : Contains group.first i

-- a task of this kind meets the pair: two different particles, or for a density a particle and itself
abbrev pub MeetsAs : Kind → ℕ → ℕ → Group → Type 0
MeetsAs Density i j group = Meets i j group ⊎ ((i ≡ j) × MeetsItself i group)
MeetsAs Force i j group = Meets i j group
MeetsAs _ i j group = ⊥

-- the same as a test
abbrev pub is_member : List ℕ → ℕ → Bool
is_member members i = list_any (λ member. member == i) members

abbrev pub meet_in : List ℕ → Option (List ℕ) → ℕ → ℕ → Bool
meet_in first None i j = is_member first i && is_member first j
meet_in first (Some second) i j = (is_member first i && is_member second j) || (is_member first j && is_member second i)

abbrev pub meets_pair : ℕ → ℕ → Group → Bool
meets_pair i j group = not (i == j) && meet_in group.first group.second i j

abbrev pub meets_itself : ℕ → Group → Bool
meets_itself i group = is_none group.second && is_member group.first i

abbrev pub meets : Kind → ℕ → ℕ → Group → Bool
meets Density i j group = meets_pair i j group || ((i == j) && meets_itself i group)
meets Force i j group = meets_pair i j group
meets _ i j group = false

-- just one element of a list does
pub record JustOne {X : Type 0} (xs : List X) (does : X → Type 0) : Type 0 where
  pub index : ℕ
  pub element : X
  pub stands : slice_get xs index ≡ Some element
  pub it_does : does element
  pub no_other : (other : ℕ) (x : X) → slice_get xs other ≡ Some x → does x → other ≡ index

-- so many particles are covered in pairs: each two in reach of which one is due meet in just one group
abbrev pub CoverPairs : List Group → ℕ → (ℕ → ℕ → Type 0) → (ℕ → Type 0) → Type 0
CoverPairs groups count reach due = (i j : ℕ) → i < count → j < count → i ≢ j → reach i j → due i ⊎ due j → JustOne groups (Meets i j)

-- and each by itself: each due particle meets itself in just one group
abbrev pub CoverSelves : List Group → ℕ → (ℕ → Type 0) → Type 0
CoverSelves groups count due = (i : ℕ) → i < count → due i → JustOne groups (MeetsItself i)

pub record Covers (groups : List Group) (count : ℕ) (reach : ℕ → ℕ → Type 0) (due : ℕ → Type 0) : Type 0 where
  pub pairs : CoverPairs groups count reach due
  pub selves : CoverSelves groups count due
