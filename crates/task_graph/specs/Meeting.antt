-- Which tasks meet a pair of particles, and that none meets it a second time.
use Rattle.std.specs.Prelude.{◌≡◌, ℕ, List, map}
use Rattle.sph_num.specs.Cover.{JustOne, Meets, MeetsAs, MeetsItself}
use Rattle.sph_num.specs.declared.kind.Kind.{Kind}
use Rattle.sph_num.specs.declared.kind.Kind.TheVariants.{Density, Force}
use Rattle.cell_tree.specs.declared.tree.Span.{Span}
use Rattle.cell_tree.specs.Spans.{group_of}
use Rattle.cell_tree.specs.Tree.{Made}
use Rattle.task_graph.specs.declared.task.Task.{Task}
use Rattle.task_graph.specs.Tasks.{span_of_task}

-- a task of the kind meets the pair among the members of its cells
abbrev pub TaskMeets : Made → Kind → ℕ → ℕ → Task → Type 0
TaskMeets made kind i j task = (task.kind ≡ kind) × MeetsAs kind i j (group_of made (span_of_task task))

-- a pair that meets in just one span meets in just one density and in just one force, and a particle that meets itself in just one span
-- does so in just one density
pub record MeetOnce (made : Made) (spans : List Span) (tasks : List Task) : Type 0 where
  pub densities : (i j : ℕ) → JustOne (map (group_of made) spans) (Meets i j) → JustOne tasks (TaskMeets made Density i j)
  pub forces : (i j : ℕ) → JustOne (map (group_of made) spans) (Meets i j) → JustOne tasks (TaskMeets made Force i j)
  pub selves : (i : ℕ) → JustOne (map (group_of made) spans) (MeetsItself i) → JustOne tasks (TaskMeets made Density i i)
