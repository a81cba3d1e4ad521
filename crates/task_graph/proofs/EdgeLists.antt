-- The lists of a graph, kind by kind, are the edges between its tasks.
use Rattle.std.proofs.Common.{◌≡◌, ℕ, ◌+◌, Bool, List, [], ◌++◌, Contains, length, map, replicate, slice_get, Some, refl, sym, ap, ◌∙◌, subst}
use Rattle.std.proofs.lemmas.List.{length-replicate, get_or-replicate}
use Rattle.std.specs.List.{range_with_len}
use Rattle.lists.proofs.Ranges.{by_numbers}
use Rattle.lists.proofs.Places.{element_at}
use Rattle.sph_num.specs.declared.kind.Kind.{Kind}
use Rattle.sph_num.specs.declared.kind.Kind.TheVariants.{Drift, Density, Ghost, Force, Kick}
use Rattle.cell_tree.specs.declared.tree.Span.{Span}
use Rattle.cell_tree.specs.Spans.{leaf_cells}
use Rattle.cell_tree.specs.Tree.{Made}
use Rattle.task_graph.specs.declared.task.Task.{Task}
use Rattle.task_graph.specs.Graph.{edges_between, successors_of}
use Rattle.task_graph.specs.inner.Parts.{AreEdgeLists, AreJoined, has_above}
use Rattle.task_graph.specs.Tasks.{cell_task, span_task, drifting_leaves, due_cells, is_below_span, tasks_of}
use Rattle.task_graph.proofs.KindOrder.{only_densities, only_ghosts, only_forces, only_kicks, none_after_kicks}
use Rattle.task_graph.proofs.OnSpans.{drifting_is_leaf, due_is_leaf}
use Rattle.task_graph.proofs.Segments.{InSegment, all_segments, in_segment, stands_at, length-all_segments}
use Rattle.task_graph.proofs.Touching.{leaf_shares, shares_leaf}
use Rattle.task_graph.proofs.NumberedLists.{five_parts}
use Rattle.task_graph.proofs.Links.{IsLink, linked_lists, none_wait}

module _ (made : Made) (drifts : List ℕ) (spans : List Span) (dues : List ℕ) (drifts_are_leaves : (cell : ℕ) → Contains drifts cell → Contains (leaf_cells made) cell) (dues_are_leaves : (cell : ℕ) → Contains dues cell → Contains (leaf_cells made) cell) where
  abbrev tasks : List Task
  tasks = all_segments drifts spans dues

  waiting_kind : (kind : Kind) (number : ℕ) (after : Task) → slice_get tasks number ≡ Some after → after.kind ≡ kind → InSegment drifts spans dues kind number after
  waiting_kind kind number after s e = subst (λ k. InSegment drifts spans dues k number after) e (in_segment drifts spans dues number after s)

  drift_link : IsLink made tasks (has_above made) (cell_task Drift) (span_task Density) drifts spans 0 (length drifts)
  drift_link = record {
    stands = stands_at drifts spans dues Drift;
    waiting = λ number a after s w. waiting_kind Density number after s (only_densities after.kind w);
    placed = stands_at drifts spans dues Density;
    edge = λ cell span c d. leaf_shares made Drift cell (span_task Density span) (drifts_are_leaves cell c);
  }

  density_link : IsLink made tasks (is_below_span made) (span_task Density) (cell_task Ghost) spans dues (length drifts) (length drifts + length spans)
  density_link = record {
    stands = stands_at drifts spans dues Density;
    waiting = λ number a after s w. waiting_kind Ghost number after s (only_ghosts after.kind w);
    placed = stands_at drifts spans dues Ghost;
    edge = λ span cell c d. shares_leaf made (span_task Density span) Ghost cell (dues_are_leaves cell d);
  }

  ghost_link : IsLink made tasks (has_above made) (cell_task Ghost) (span_task Force) dues spans (length drifts + length spans) (length drifts + length spans + length dues)
  ghost_link = record {
    stands = stands_at drifts spans dues Ghost;
    waiting = λ number a after s w. waiting_kind Force number after s (only_forces after.kind w);
    placed = stands_at drifts spans dues Force;
    edge = λ cell span c d. leaf_shares made Ghost cell (span_task Force span) (dues_are_leaves cell c);
  }

  force_link : IsLink made tasks (is_below_span made) (span_task Force) (cell_task Kick) spans dues (length drifts + length spans + length dues) (length drifts + length spans + length dues + length spans)
  force_link = record {
    stands = stands_at drifts spans dues Force;
    waiting = λ number a after s w. waiting_kind Kick number after s (only_kicks after.kind w);
    placed = stands_at drifts spans dues Kick;
    edge = λ span cell c d. shares_leaf made (span_task Force span) Kick cell (dues_are_leaves cell d);
  }

  -- the lists of the kicks are empty
  kick_lists : replicate (length dues) [] ≡ map (successors_of made tasks) (range_with_len (length drifts + length spans + length dues + length spans) (length dues))
  kick_lists =
      let first = length drifts + length spans + length dues + length spans in
      by_numbers (successors_of made tasks) [] (replicate (length dues) []) first (length dues) (length-replicate (length dues) [])
      (λ k below.
      let w = element_at dues k below in
      get_or-replicate (length dues) k [] [] below
      ∙ sym (none_wait made tasks (first + k) (cell_task Kick w.0) (stands_at drifts spans dues Kick (first + k) (cell_task Kick w.0) (record { index = k; element = w.0; at = refl; found = w.1; is = refl })) none_after_kicks))

  -- the lists one after another are the edges
  joined_lists : (xs ys zs us : List (List ℕ)) → AreJoined (has_above made) drifts spans (length drifts) xs → AreJoined (is_below_span made) spans dues (length drifts + length spans) ys
      → AreJoined (has_above made) dues spans (length drifts + length spans + length dues) zs → AreJoined (is_below_span made) spans dues (length drifts + length spans + length dues + length spans) us
      → xs ++ ys ++ zs ++ us ++ replicate (length dues) [] ≡ edges_between made tasks
  joined_lists xs ys zs us p q r s =
      five_parts (successors_of made tasks) (length drifts) (length spans) (length dues) (length spans) (length dues) xs ys zs us (replicate (length dues) [])
      (linked_lists made tasks (has_above made) (cell_task Drift) (span_task Density) drifts spans 0 (length drifts) drift_link xs p)
      (linked_lists made tasks (is_below_span made) (span_task Density) (cell_task Ghost) spans dues (length drifts) (length drifts + length spans) density_link ys q)
      (linked_lists made tasks (has_above made) (cell_task Ghost) (span_task Force) dues spans (length drifts + length spans) (length drifts + length spans + length dues) ghost_link zs r)
      (linked_lists made tasks (is_below_span made) (span_task Force) (cell_task Kick) spans dues (length drifts + length spans + length dues) (length drifts + length spans + length dues + length spans) force_link us s)
      kick_lists
      ∙ ap (λ n. map (successors_of made tasks) (range_with_len 0 n)) (sym (length-all_segments drifts spans dues))

-- lists that give the edges kind by kind are the edges between the tasks
pub edges_from_lists : (made : Made) (spans : List Span) (due : List Bool) (drift : Bool) (successors : List (List ℕ)) → AreEdgeLists made spans due drift successors → successors ≡ edges_between made (tasks_of made spans due drift)
edges_from_lists made spans due drift successors are =
    let drifts = drifting_leaves made spans drift in
    let dues = due_cells made due in
    let e : length are.drifts ≡ length drifts = are.drifts_are.one_each in
    are.all
    ∙ joined_lists made drifts spans dues (drifting_is_leaf made spans drift) (due_is_leaf made due) are.drifts are.densities are.ghosts are.forces
    (subst (λ n. AreJoined (has_above made) drifts spans n are.drifts) e are.drifts_are)
    (subst (λ n. AreJoined (is_below_span made) spans dues (n + length spans) are.densities) e are.densities_are)
    (subst (λ n. AreJoined (has_above made) dues spans (n + length spans + length dues) are.ghosts) e are.ghosts_are)
    (subst (λ n. AreJoined (is_below_span made) spans dues (n + length spans + length dues + length spans) are.forces) e are.forces_are)
