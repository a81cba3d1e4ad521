-- What meets in just one span meets in just one density and in just one force of the tasks.
use Rattle.std.proofs.Common.{◌≡◌, ℕ, ◌+◌, Bool, List, map, length, slice_get, Some, refl, subst, inl, inr, arith}
use Rattle.lists.proofs.Places.{slice_get-map_at, slice_get-map_cases}
use Rattle.sph_num.specs.Cover.{Group, JustOne, Meets, MeetsAs, MeetsItself}
use Rattle.sph_num.specs.declared.kind.Kind.{Kind}
use Rattle.sph_num.specs.declared.kind.Kind.TheVariants.{Density, Force}
use Rattle.cell_tree.specs.declared.tree.Span.{Span}
use Rattle.cell_tree.specs.Spans.{group_of}
use Rattle.cell_tree.specs.Tree.{Made}
use Rattle.task_graph.specs.declared.task.Task.{Task}
use Rattle.task_graph.specs.Meeting.{MeetOnce}
use Rattle.task_graph.specs.Tasks.{drifting_leaves, due_cells, span_of_task, span_task, tasks_of}
use Rattle.task_graph.proofs.Segments.{InSegment, Stands, in_segment, stands_at}

-- just one element does what comes to the same
JustOne-same : {X : Type 0} (does does' : X → Type 0) (xs : List X) → JustOne xs does → ((x : X) → does x → does' x) → ((x : X) → does' x → does x) → JustOne xs does'
JustOne-same does does' xs one to from = record {
  index = one.index;
  element = one.element;
  stands = one.stands;
  it_does = to one.element one.it_does;
  no_other = λ other x s d. one.no_other other x s (from x d);
}

module _ (made : Made) (spans : List Span) (due : List Bool) (drift : Bool) where
  abbrev drifts : List ℕ
  drifts = drifting_leaves made spans drift

  abbrev dues : List ℕ
  dues = due_cells made due

  abbrev tasks : List Task
  tasks = tasks_of made spans due drift

  -- a task of the kind does so with the members of its cells
  abbrev DoesAs : Kind → (Group → Type 0) → Task → Type 0
  DoesAs kind does task = (task.kind ≡ kind) × does (group_of made (span_of_task task))

  module _ (does : Group → Type 0) (one : JustOne (map (group_of made) spans) does) where
    -- the tasks of a kind stand at the spans, numbered from a first number on
    one_task : (kind : Kind) (first : ℕ) → ((number : ℕ) (task : Task) → Stands (span_task kind) spans first number task → slice_get tasks number ≡ Some task)
        → ((number : ℕ) (task : Task) → slice_get tasks number ≡ Some task → task.kind ≡ kind → Stands (span_task kind) spans first number task) → JustOne tasks (DoesAs kind does)
    one_task kind first placed found =
        let w = slice_get-map_cases (group_of made) spans one.index one.element one.stands in
        record {
          index = first + one.index;
          element = span_task kind w.0;
          stands = placed (first + one.index) (span_task kind w.0) (record { index = one.index; element = w.0; at = refl; found = w.1; is = refl });
          it_does = (refl, subst does w.2 one.it_does);
          no_other = λ other task s d.
              let v = found other task s d.0 in
              let g = subst (λ t. does (group_of made (span_of_task t))) v.is d.1 in
              let e = one.no_other v.index (group_of made v.element) (slice_get-map_at (group_of made) spans v.index v.element v.found) g in
              let a = v.at in
              omega arith;
        }

    one_density : JustOne tasks (DoesAs Density does)
    one_density =
        one_task Density (length drifts) (stands_at drifts spans dues Density)
        (λ number task s e. subst (λ kind. InSegment drifts spans dues kind number task) e (in_segment drifts spans dues number task s))

    one_force : JustOne tasks (DoesAs Force does)
    one_force =
        one_task Force (length drifts + length spans + length dues) (stands_at drifts spans dues Force)
        (λ number task s e. subst (λ kind. InSegment drifts spans dues kind number task) e (in_segment drifts spans dues number task s))

  pub meet_once : MeetOnce made spans tasks
  meet_once = record {
    densities = λ i j one.
        one_density (MeetsAs Density i j)
        (JustOne-same (Meets i j) (MeetsAs Density i j) (map (group_of made) spans) one (λ group m. inl m) (λ group m. elim m [ inl pair ↦ pair | inr self ↦ absurd (one.it_does.0 self.0) ]));
    forces = λ i j one. one_force (Meets i j) one;
    selves = λ i one.
        one_density (MeetsAs Density i i)
        (JustOne-same (MeetsItself i) (MeetsAs Density i i) (map (group_of made) spans) one (λ group m. inr (refl, m)) (λ group m. elim m [ inl pair ↦ absurd (pair.0 refl) | inr self ↦ self.1 ]));
  }
