-- The plain data from which a step starts, and when it is good.
use Rattle.std.specs.Prelude.{◌≡◌, ◌≢◌, ℕ, ◌+◌, ◌-◌, ◌<◌, ◌≤◌, ◌^◌, ◌⊎◌, ◌&&◌, ◌||◌, ⊤, Bool, true, false, nat_lt, nat_le, if◌then◌else◌, List, [], ◌∷◌, ◌++◌, map, filter, flat_map, length, slice_index_or, All, Contains, Option, Some, None}
use Rattle.std.specs.List.{list_any, range_with_len}
use Rattle.std.specs.List.Sorted.{IsStrictlyIncreasing}
use Rattle.sph_num.specs.declared.kind.Kind.{Kind}
use Rattle.sph_num.specs.declared.kind.Kind.TheVariants.{Drift, Density, Ghost, Force, Kick}
use Rattle.sph_num.specs.declared.particle.Particle.{Particle}
use Rattle.sph_num.specs.Cover.{Group, JustOne, MeetsAs}
use Rattle.sph_num.specs.Force.{InReach}
use Rattle.sph_num.specs.Kinds.{waits_for}
use Rattle.sph_num.specs.Space.{dist2}
use Rattle.sph_num.specs.Totals.{zero_vector}
use Rattle.sph_bins.specs.Bins.{IsStepTick, is_due}
use Rattle.sph_bins.specs.InBounds.{InBounds}
use Rattle.sph_bins.specs.Kick.{place_at}
use Rattle.cell_block.specs.declared.scene.Scene.{Scene}
use Rattle.cell_block.specs.declared.scene.TaskLine.{TaskLine}

abbrev pub no_particle : Particle
no_particle = record { mass = 0; h = 0; x0 = []; t0 = 0; p = zero_vector; q = zero_vector; f = zero_vector; rho = 0; g = 0; bin = 0 }

-- the particle of this index before the step, where it is at the tick, and whether it is due
abbrev pub particle_at : Scene → ℕ → Particle
particle_at scene i = slice_index_or scene.start i no_particle

abbrev pub place_of : Scene → Particle → List ℕ
place_of scene particle = place_at scene.params scene.tick particle

abbrev pub is_due_at : Scene → ℕ → Bool
is_due_at scene i = is_due scene.tick (particle_at scene i).bin

-- the members of a leaf, and of the leaves of a range
abbrev pub members_of : Scene → ℕ → List ℕ
members_of scene leaf = slice_index_or scene.leaves leaf []

abbrev pub members_in : Scene → ℕ × ℕ → List ℕ
members_in scene range = flat_map (members_of scene) (range_with_len range.0 (range.1 - range.0))

abbrev pub members_in_second : Scene → Option (ℕ × ℕ) → Option (List ℕ)
members_in_second scene None = None
members_in_second scene (Some range) = Some (members_in scene range)

-- the task of this number, and the particles that it brings together
abbrev pub line_at : Scene → ℕ → TaskLine
line_at scene task = slice_index_or scene.tasks task (record { kind = Drift; first = (0, 0); second = None })

abbrev pub group_of : Scene → TaskLine → Group
group_of scene line = record { first = members_in scene line.first; second = members_in_second scene line.second }

-- a task touches the leaves of its ranges
abbrev pub is_in : ℕ × ℕ → ℕ → Bool
is_in range leaf = nat_le range.0 leaf && nat_lt leaf range.1

abbrev pub is_in_second : Option (ℕ × ℕ) → ℕ → Bool
is_in_second None leaf = false
is_in_second (Some range) leaf = is_in range leaf

abbrev pub touches : TaskLine → ℕ → Bool
touches line leaf = is_in line.first leaf || is_in_second line.second leaf

-- one range of leaves, or two without a leaf in common
pub record RangeSpan : Type 0 where
  pub first : ℕ × ℕ
  pub second : Option (ℕ × ℕ)

pub record IsRange (leaves : ℕ) (range : ℕ × ℕ) : Type 0 where
  pub some : range.0 < range.1
  pub within : range.1 ≤ leaves

abbrev pub IsOtherRange : ℕ → ℕ × ℕ → Option (ℕ × ℕ) → Type 0
IsOtherRange leaves first None = ⊤
IsOtherRange leaves first (Some second) = IsRange leaves second × ((first.1 ≤ second.0) ⊎ (second.1 ≤ first.0))

pub record IsRangeSpan (leaves : ℕ) (span : RangeSpan) : Type 0 where
  pub first : IsRange leaves span.first
  pub second : IsOtherRange leaves span.first span.second

-- a task on one leaf, and on the leaves of a span
abbrev pub leaf_line : Kind → ℕ → TaskLine
leaf_line kind leaf = record { kind = kind; first = (leaf, leaf + 1); second = None }

abbrev pub span_line : Kind → RangeSpan → TaskLine
span_line kind span = record { kind = kind; first = span.first; second = span.second }

-- the leaves with a due member, and those that drift
abbrev pub leaf_numbers : Scene → List ℕ
leaf_numbers scene = range_with_len 0 (length scene.leaves)

abbrev pub due_leaves : Scene → List ℕ
due_leaves scene = filter (λ leaf. list_any (is_due_at scene) (members_of scene leaf)) (leaf_numbers scene)

abbrev pub drifting_leaves : Scene → List RangeSpan → List ℕ
drifting_leaves scene spans =
    if scene.drift then filter (λ leaf. list_any (λ span. touches (span_line Density span) leaf) spans) (leaf_numbers scene) else []

-- the tasks of a step on some spans: where drift is asked one for each leaf below them, a density for each span, a ghost for each leaf
-- with a due member, a force for each span, and a kick for each leaf with a due member
abbrev pub lines_of : Scene → List RangeSpan → List TaskLine
lines_of scene spans =
    map (leaf_line Drift) (drifting_leaves scene spans)
    ++ map (span_line Density) spans
    ++ map (leaf_line Ghost) (due_leaves scene)
    ++ map (span_line Force) spans
    ++ map (leaf_line Kick) (due_leaves scene)

-- each index stands in just one leaf, and once there
pub record AreLeaves (scene : Scene) : Type 0 where
  pub one_leaf : (i : ℕ) → i < length scene.start → JustOne scene.leaves (λ members. Contains members i)
  pub members : All (All (λ i. i < length scene.start)) scene.leaves
  pub rising : All IsStrictlyIncreasing scene.leaves

-- two particles are in reach of one another at the tick
abbrev pub AreInReach : Scene → ℕ → ℕ → Type 0
AreInReach scene i j =
    InReach (dist2 (place_of scene (particle_at scene i)) (place_of scene (particle_at scene j))) (particle_at scene i).h (particle_at scene j).h

-- a task of the kind meets the pair
abbrev pub LineMeets : Scene → Kind → ℕ → ℕ → TaskLine → Type 0
LineMeets scene kind i j line = (line.kind ≡ kind) × MeetsAs kind i j (group_of scene line)

abbrev pub MeetOnce : Scene → Kind → Type 0
MeetOnce scene kind =
    (i j : ℕ) → i < length scene.start → j < length scene.start → i ≢ j → AreInReach scene i j
    → (is_due_at scene i ≡ true) ⊎ (is_due_at scene j ≡ true) → JustOne scene.tasks (LineMeets scene kind i j)

-- the tasks cover the particles: each two in reach of which one is due meet in just one density and in just one force, and each due
-- particle meets itself in just one density
pub record LinesCover (scene : Scene) : Type 0 where
  pub densities : MeetOnce scene Density
  pub forces : MeetOnce scene Force
  pub selves : (i : ℕ) → i < length scene.start → is_due_at scene i ≡ true → JustOne scene.tasks (LineMeets scene Density i i)

-- a good scene: a list in bounds at a step tick, in leaves, with the tasks of some spans, which cover it
pub record IsGoodScene (scene : Scene) : Type 0 where
  pub tick : IsStepTick scene.params scene.tick
  pub in_bounds : InBounds scene.params scene.bounds scene.tick scene.start
  pub leaves : AreLeaves scene
  pub spans : List RangeSpan
  pub ranges : All (IsRangeSpan (length scene.leaves)) spans
  pub lines : scene.tasks ≡ lines_of scene spans
  pub few_lines : length scene.tasks < 2 ^ 32
  pub covers : LinesCover scene

-- an edge: the one task waits for the other where its kind does and they touch one leaf
pub record IsLineEdge (scene : Scene) (before after : ℕ) : Type 0 where
  pub before_within : before < length scene.tasks
  pub after_within : after < length scene.tasks
  pub waits : waits_for (line_at scene after).kind (line_at scene before).kind ≡ true
  pub leaf : ℕ
  pub touched_before : touches (line_at scene before) leaf ≡ true
  pub touched_after : touches (line_at scene after) leaf ≡ true

-- through the tasks between them, one edge after the other
abbrev pub IsLinePath : Scene → ℕ → List ℕ → ℕ → Type 0
IsLinePath scene before [] after = IsLineEdge scene before after
IsLinePath scene before (task ∷ path) after = IsLineEdge scene before task × IsLinePath scene task path after

abbrev pub LinePrecedes : Scene → ℕ → ℕ → Type 0
LinePrecedes scene before after = (path : List ℕ) × IsLinePath scene before path after
