-- The tasks on leaves meet the pairs that the tasks on cells meet, so they cover the particles.
use Rattle.std.proofs.Common.{◌≡◌, ◌≢◌, ℕ, ◌<◌, ◌⊎◌, true, false, List, [], length, map, get_or, slice_get, Option, Some, None, inl, inr, refl, sym, ◌∙◌, subst, arith}
use Rattle.std.specs.Prelude.{⊤, option_map}
use Rattle.std.specs.List.{All, Contains}
use Rattle.std.proofs.lemmas.List.Elements.{All-contains}
use Rattle.lists.proofs.Places.{Contains-from_slice_get, slice_get-map_at, slice_get-map_cases}
use Rattle.sph_num.specs.declared.kind.Kind.{Kind}
use Rattle.sph_num.specs.declared.kind.Kind.TheVariants.{Density, Drift, Force, Ghost, Kick}
use Rattle.sph_num.specs.declared.particle.Bounds.{Bounds}
use Rattle.sph_num.specs.declared.particle.Params.{Params}
use Rattle.sph_num.specs.declared.particle.Particle.{Particle}
use Rattle.sph_num.specs.Cover.{Group, JustOne, MeetIn, Meets, MeetsAs}
use Rattle.sph_num.proofs.Ring.{apart_self, coordinate-lt}
use Rattle.cell_block.specs.declared.scene.Scene.{Scene}
use Rattle.cell_block.specs.Scene.{AreInReach, LineMeets, LinesCover, group_of, is_due_at, members_in, members_in_second}
use Rattle.cell_block.proofs.LeafMembers.{Contains-members_in, in_range, leaf_in_range, within_range}
use Rattle.cell_tree.specs.Laws.{CanBeMade}
use Rattle.cell_tree.specs.Spans.{IsOtherCell, group_of as group_of_span, second_members}
use Rattle.cell_tree.specs.Tree.{Made, cell_at, cells_of}
use Rattle.cell_tree.proofs.Below.{below_member, member_below}
use Rattle.pair_cover.specs.Covering.{AreInReach as AreNear, AreMoved, CoversMoved}
use Rattle.task_graph.specs.declared.task.Task.{Task}
use Rattle.task_graph.specs.Meeting.{TaskMeets}
use Rattle.task_graph.specs.Tasks.{IsOnSpan, span_of_task}
use Rattle.sph_step.specs.declared.stage.StagePlan.{StagePlan}
use Rattle.sph_step.specs.inner.Graphs.{IsGraphOn}
use Rattle.sph_step.specs.Made.{TellsCells, dues_at, made_at, scene_of, spans_at}
use Rattle.sph_step.specs.Stage.{line_of}
use Rattle.sph_step.proofs.LeafLines.{leaves_of}
use Rattle.sph_step.proofs.LeafLists.{has_from_leaf, leaf_cell, leaf_from_has}
use Rattle.sph_step.proofs.Points.{due_is, length-points, length_is, point_is}

-- the members of one list, if there is one, are members of another
abbrev IsSecondIn : Option (List ℕ) → Option (List ℕ) → Type 0
IsSecondIn None None = ⊤
IsSecondIn (Some xs) (Some ys) = (i : ℕ) → Contains xs i → Contains ys i
IsSecondIn _ _ = ⊥

-- the members of one group's cells are members of another's
record IsIn (group group' : Group) : Type 0 where
  first_in : (i : ℕ) → Contains group.first i → Contains group'.first i
  second_in : IsSecondIn group.second group'.second

-- so the other meets whom the one meets
meet_in : (i j : ℕ) (first first' : List ℕ) (second second' : Option (List ℕ)) → ((k : ℕ) → Contains first k → Contains first' k) → IsSecondIn second second' → MeetIn first second i j → MeetIn first' second' i j
meet_in i j first first' None None of_first _ m = (of_first i m.0, of_first j m.1)
meet_in i j first first' (Some xs) (Some ys) of_first of_second m = elim m [
  | inl c ↦ inl (of_first i c.0, of_second j c.1)
  | inr c ↦ inr (of_first j c.0, of_second i c.1)
]
meet_in i j first first' None (Some ys) of_first of_second m = absurd of_second
meet_in i j first first' (Some xs) None of_first of_second m = absurd of_second

-- where the one has a single cell, so has the other
no_second : (second second' : Option (List ℕ)) → IsSecondIn second second' → second ≡ None → second' ≡ None
no_second second None _ none = sym none ∙ none
no_second second (Some ys) within none = absurd (subst (λ s. IsSecondIn s (Some ys)) none within)

meets_more : (i j : ℕ) (group group' : Group) → IsIn group group' → Meets i j group → Meets i j group'
meets_more i j group group' within m = (m.0, meet_in i j group.first group'.first group.second group'.second within.first_in within.second_in m.1)

meets_as_more : (kind : Kind) (i j : ℕ) (group group' : Group) → IsIn group group' → MeetsAs kind i j group → MeetsAs kind i j group'
meets_as_more Density i j group group' within m = elim m [
  | inl pair ↦ inl (meets_more i j group group' within pair)
  | inr self ↦ inr (self.0, record { one_cell = no_second group.second group'.second within.second_in self.1.one_cell; member = within.first_in i self.1.member })
]
meets_as_more Force i j group group' within m = meets_more i j group group' within m
meets_as_more Drift i j group group' within m = m
meets_as_more Ghost i j group group' within m = m
meets_as_more Kick i j group group' within m = m

module _ (params : Params) (bounds : Bounds) (t : ℕ) (list : List Particle) (plan : StagePlan) (can : CanBeMade (made_at params t list)) (cells : TellsCells (made_at params t list) plan) where
  abbrev made : Made
  made = made_at params t list

  abbrev scene : Scene
  scene = scene_of params bounds t list plan

  -- the members of the leaves below a cell are the cell's
  cell_member : (cell : ℕ) → cell < length (cells_of made) → (i : ℕ) → Contains (members_in scene (leaves_of plan cell)) i → Contains (cell_at made cell).members i
  cell_member cell l i c =
      let w = leaf_in_range scene (leaves_of plan cell) i c in
      let range = within_range (leaves_of plan cell) w.0 w.1 in
      let below = cells.ranges cell l in
      below_member made can cell _ _ w.0 (leaf_cell made w.0) i l below (has_from_leaf made w.0 i (omega (arith, range.1, below.within)) w.2) range.0 range.1

  range_member : (cell : ℕ) → cell < length (cells_of made) → (i : ℕ) → Contains (cell_at made cell).members i → Contains (members_in scene (leaves_of plan cell)) i
  range_member cell l i c =
      let w = member_below made can cell _ _ i l (cells.ranges cell l) c in
      Contains-members_in scene (leaves_of plan cell) w.0 i (in_range (leaves_of plan cell) w.0 w.3 w.4) (leaf_from_has made w.0 w.1 i w.2)

  -- and so of the other cell, if there is one
  second_members_in : (first : ℕ) (second : Option ℕ) → IsOtherCell made first second → IsSecondIn (members_in_second scene (option_map (leaves_of plan) second)) (second_members made second)
  second_members_in first None _ = tt
  second_members_in first (Some cell) other = cell_member cell other.0

  second_ranges_in : (first : ℕ) (second : Option ℕ) → IsOtherCell made first second → IsSecondIn (second_members made second) (members_in_second scene (option_map (leaves_of plan) second))
  second_ranges_in first None _ = tt
  second_ranges_in first (Some cell) other = range_member cell other.0

  abbrev cell_group : Task → Group
  cell_group task = group_of_span made (span_of_task task)

  -- a task on leaves meets whom the task on cells meets, and turned
  line_in_task : (task : Task) → IsOnSpan made task → IsIn (group_of scene (line_of plan task)) (cell_group task)
  line_in_task task on = record { first_in = cell_member task.first on.first; second_in = second_members_in task.first task.second on.second }

  task_in_line : (task : Task) → IsOnSpan made task → IsIn (cell_group task) (group_of scene (line_of plan task))
  task_in_line task on = record { first_in = range_member task.first on.first; second_in = second_ranges_in task.first task.second on.second }

  -- so what just one task on cells meets just one on leaves meets
  module _ (on_spans : All (IsOnSpan made) plan.graph.tasks) where
    one_line : (kind : Kind) (i j : ℕ) → JustOne plan.graph.tasks (TaskMeets made kind i j) → JustOne scene.tasks (LineMeets scene kind i j)
    one_line kind i j one =
        let on = λ (number : ℕ) (task : Task) (s : slice_get plan.graph.tasks number ≡ Some task). All-contains (IsOnSpan made) plan.graph.tasks task on_spans (Contains-from_slice_get plan.graph.tasks number task s) in
        record {
          index = one.index;
          element = line_of plan one.element;
          stands = slice_get-map_at (line_of plan) plan.graph.tasks one.index one.element one.stands;
          it_does = (
            one.it_does.0,
            meets_as_more kind i j (cell_group one.element) (group_of scene (line_of plan one.element)) (task_in_line one.element (on one.index one.element one.stands)) one.it_does.1,
          );
          no_other = λ number line s m.
              let w = slice_get-map_cases (line_of plan) plan.graph.tasks number line s in
              let m' = subst (LineMeets scene kind i j) w.2 m in
              one.no_other number w.0 w.1
              (m'.0, meets_as_more kind i j (group_of scene (line_of plan w.0)) (cell_group w.0) (line_in_task w.0 (on number w.0 w.1)) m'.1);
        }

  -- the points have not moved
  still : AreMoved made params.slack made.points
  still = record {
    one_each = refl;
    near = λ k l. record {
      was = can.places k l;
      now = can.places k l;
      near = λ axis low. omega (arith, apart_self _ (coordinate-lt (get_or made.points k []) axis (can.places k l) low));
    };
  }

  -- who is in reach in the scene is so in the tree
  near_at : (i j : ℕ) → i < length list → j < length list → AreInReach scene i j → AreNear made made.points i j
  near_at i j l m near = rw (point_is params t list i l, point_is params t list j m, length_is params t list i 0 l, length_is params t list j 0 m) near

  -- where the cells meet each pair that they have to just once, so do the leaves
  module _ (covers : CoversMoved made (dues_at t list) params.slack (spans_at params t list)) (graph : IsGraphOn made (spans_at params t list) plan.graph) where
    due_flag : (i : ℕ) → i < length list → is_due_at scene i ≡ true → get_or (dues_at t list) i false ≡ true
    due_flag i l due = due_is params t list i l ∙ due

    one_group : (i j : ℕ) → i < length list → j < length list → i ≢ j → AreInReach scene i j → (is_due_at scene i ≡ true) ⊎ (is_due_at scene j ≡ true)
        → JustOne (map (group_of_span made) (spans_at params t list)) (Meets i j)
    one_group i j l m other near due =
        let long = length-points params t list in
        (covers made.points still).pairs i j (omega arith) (omega arith) other (near_at i j l m near) (elim due [ inl d ↦ inl (due_flag i l d) | inr d ↦ inr (due_flag j m d) ])

    pub lines_cover : LinesCover scene
    lines_cover = record {
      densities = λ i j l m other near due. one_line graph.on_spans Density i j (graph.meet_once.densities i j (one_group i j l m other near due));
      forces = λ i j l m other near due. one_line graph.on_spans Force i j (graph.meet_once.forces i j (one_group i j l m other near due));
      selves = λ i l due.
          let long = length-points params t list in
          one_line graph.on_spans Density i i (graph.meet_once.selves i ((covers made.points still).selves i (omega arith) (due_flag i l due)));
    }
