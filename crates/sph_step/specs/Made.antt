-- What a step is made of: the tree of the places at its tick, the cover of the tree, and the graph of tasks on it.
use Rattle.std.specs.Prelude.{◌≡◌, ℕ, ◌<◌, Bool, false, List, length, map, Option, MatchOption}
use Rattle.sph_num.specs.declared.particle.Bounds.{Bounds}
use Rattle.sph_num.specs.declared.particle.Params.{Params}
use Rattle.sph_num.specs.declared.particle.Particle.{Particle}
use Rattle.sph_bins.specs.Bins.{is_due}
use Rattle.sph_bins.specs.Kick.{place_at}
use Rattle.cell_block.specs.declared.scene.Scene.{Scene}
use Rattle.cell_tree.specs.declared.tree.Span.{Span}
use Rattle.cell_tree.specs.Spans.{leaf_cells}
use Rattle.cell_tree.specs.Tree.{AreLeavesBelow, IsParent, Made, cell_at, cells_of, made_of}
use Rattle.pair_cover.specs.declared.looks.Limits.{Limits}
use Rattle.pair_cover.specs.Looks.{spans_of}
use Rattle.qs_core.specs.Shape.{parent_of, range_of}
use Rattle.task_graph.specs.Graph.{graph_of}
use Rattle.sph_step.specs.declared.stage.StagePlan.{StagePlan}
use Rattle.sph_step.specs.Stage.{line_of, shape_of}

-- the tree of the places of a list at a tick
abbrev pub made_at : Params → ℕ → List Particle → Made
made_at params t list = made_of (map (place_at params t) list) (map (λ (p : Particle). p.h) list) params.leaf

-- which particles are due
abbrev pub dues_at : ℕ → List Particle → List Bool
dues_at t list = map (λ (p : Particle). is_due t p.bin) list

-- the spans of the tree
abbrev pub limits_of : Params → Limits
limits_of params = record { pairs = params.pairs; slack = params.slack }

abbrev pub spans_at : Params → ℕ → List Particle → List Span
spans_at params t list = spans_of (made_at params t list) (dues_at t list) (limits_of params)

-- the members of each leaf
abbrev pub leaves_in : Made → List (List ℕ)
leaves_in made = map (λ cell. (cell_at made cell).members) (leaf_cells made)

-- it is the cell's parent, or the cell is the whole box and has none
abbrev pub IsParentOf : Made → ℕ → Option ℕ → Type 0
IsParentOf made cell parent = MatchOption parent (cell ≡ 0) (λ above. IsParent made above cell)

-- the range has just the leaves below the cell
abbrev pub IsRangeOf : Made → ℕ → ℕ × ℕ → Type 0
IsRangeOf made cell range = AreLeavesBelow made cell range.0 range.1

-- the work tells of each cell its parent and the leaves below it
pub record TellsCells (made : Made) (plan : StagePlan) : Type 0 where
  pub one_parent_each : length plan.parents.items ≡ length (cells_of made)
  pub one_range_each : length plan.ranges.items ≡ length (cells_of made)
  pub parents : (cell : ℕ) → cell < length (cells_of made) → IsParentOf made cell (parent_of (shape_of plan) cell)
  pub ranges : (cell : ℕ) → cell < length (cells_of made) → IsRangeOf made cell (range_of (shape_of plan) cell)

-- the scene of a list at a tick, with the tasks of a plan
abbrev pub scene_of : Params → Bounds → ℕ → List Particle → StagePlan → Scene
scene_of params bounds t list plan = record {
  tick = t;
  params = params;
  bounds = bounds;
  start = list;
  leaves = leaves_in (made_at params t list);
  tasks = map (line_of plan) plan.graph.tasks;
  drift = false;
}

-- the stage of a list at a tick, on the tree of its places there
pub record IsStageOf (params : Params) (bounds : Bounds) (t : ℕ) (list : List Particle) (plan : StagePlan) : Type 0 where
  pub scene : plan.scene ≡ scene_of params bounds t list plan
  pub cells : TellsCells (made_at params t list) plan
  pub graph : plan.graph ≡ graph_of (made_at params t list) (spans_at params t list) (dues_at t list) false
