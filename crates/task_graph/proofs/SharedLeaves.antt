-- Which leaves a task touches, by their numbers, and that an edge is a leaf in common.
use Rattle.std.proofs.Common.{◌≡◌, ℕ, ◌<◌, ◌↔◌, true, ◌&&◌, List, All, Contains, length, get_or, Option, Some, None, inl, inr, sym, ◌∙◌, subst, arith}
use Rattle.std.specs.List.{range_with_len}
use Rattle.std.proofs.lemmas.Bool.{and_parts, and_from, or_cases, or_left, or_right, false≢true}
use Rattle.std.proofs.lemmas.List.{get_or_default}
use Rattle.std.proofs.lemmas.List.Elements.{All-get_or}
use Rattle.std.proofs.lemmas.List.Folds.{Any-from_list_any, list_any_at}
use Rattle.lists.proofs.Elements.{Contains-filter}
use Rattle.lists.proofs.Ranges.{Contains-numbers}
use Rattle.sph_num.specs.declared.kind.Kind.TheVariants.{Drift}
use Rattle.sph_num.specs.Kinds.{waits_for}
use Rattle.cell_tree.specs.Laws.{CanBeMade}
use Rattle.cell_tree.specs.Spans.{IsOtherCell, leaf_cells}
use Rattle.cell_tree.specs.Tree.{Made, cells_of, leaf_count, lies_in}
use Rattle.cell_tree.proofs.LeafCells.{length-leaf_cells}
use Rattle.cell_tree.proofs.LeafCounts.{leaves_of_run}
use Rattle.task_graph.specs.declared.task.Task.{Task}
use Rattle.task_graph.specs.Graph.{IsLeafBelow, IsLeafBelowSome, ShareLeaf, TouchesLeaf, WaitAtLeaves, edges_between, is_edge, task_at}
use Rattle.task_graph.specs.Tasks.{IsOnSpan, cell_task, lies_in_some, touches}
use Rattle.task_graph.proofs.Forward.{after_of-edges_between, successor_edge}
use Rattle.task_graph.proofs.Touching.{in_range_from_lies, lies_from_in_range}

module _ (made : Made) where
  -- the cell of the leaf of this number
  abbrev leaf_cell : ℕ → ℕ
  leaf_cell leaf = get_or (leaf_cells made) leaf 0

  -- a leaf below a cell is a leaf, and lies in it
  number_below : (leaf cell : ℕ) → IsLeafBelow made leaf cell → leaf < leaf_count made
  number_below leaf cell b = let most = b.are.within in let high = b.high in omega arith

  lies_below : (leaf cell : ℕ) → IsLeafBelow made leaf cell → lies_in made cell (leaf_cell leaf) ≡ true
  lies_below leaf cell b = lies_from_in_range made cell b.from b.to leaf b.are b.low b.high

  lies_below_some : (leaf : ℕ) (second : Option ℕ) → IsLeafBelowSome made leaf second → (leaf < leaf_count made) × (lies_in_some made second (leaf_cell leaf) ≡ true)
  lies_below_some leaf None b = absurd b
  lies_below_some leaf (Some cell) b = (number_below leaf cell b, lies_below leaf cell b)

  -- what touches a leaf by its number touches it by its cell
  pub touches_from_number : (task : Task) (leaf : ℕ) → TouchesLeaf made task leaf → (leaf < leaf_count made) × (touches made task (leaf_cell leaf) ≡ true)
  touches_from_number task leaf t = elim t [
    | inl b ↦ (number_below leaf task.first b, or_left _ _ (lies_below leaf task.first b))
    | inr b ↦ let s = lies_below_some leaf task.second b in (s.0, or_right _ _ s.1)
  ]

  module _ (can : CanBeMade made) where
    -- and turned, for a task on cells of the tree
    below_from_lies : (cell leaf : ℕ) → cell < length (cells_of made) → leaf < leaf_count made → lies_in made cell (leaf_cell leaf) ≡ true → IsLeafBelow made leaf cell
    below_from_lies cell leaf within l t =
        let are = leaves_of_run made can cell within in
        let r = in_range_from_lies made cell _ _ leaf are l t in
        record { from = _; to = _; are = are; low = r.0; high = r.1 }

    below_some_from_lies : (first : ℕ) (second : Option ℕ) (leaf : ℕ) → IsOtherCell made first second → leaf < leaf_count made → lies_in_some made second (leaf_cell leaf) ≡ true → IsLeafBelowSome made leaf second
    below_some_from_lies first None leaf other l t = absurd (false≢true t)
    below_some_from_lies first (Some cell) leaf other l t = below_from_lies cell leaf other.0 l t

    pub number_from_touches : (task : Task) (leaf : ℕ) → IsOnSpan made task → leaf < leaf_count made → touches made task (leaf_cell leaf) ≡ true → TouchesLeaf made task leaf
    number_from_touches task leaf on l t = elim (or_cases _ _ t) [
      | inl u ↦ inl (below_from_lies task.first leaf on.first l u)
      | inr u ↦ inr (below_some_from_lies task.first task.second leaf on.second l u)
    ]

  -- an edge from a leaf in common
  pub edge_from_leaf : (before after : Task) → waits_for after.kind before.kind ≡ true → ShareLeaf made before after → is_edge made before after ≡ true
  edge_from_leaf before after waits (leaf, t, u) =
      let p = touches_from_number before leaf t in
      let q = touches_from_number after leaf u in
      let l = p.0 in
      let long = length-leaf_cells made in
      and_from _ _ waits (list_any_at (λ at. touches made before at && touches made after at) (leaf_cells made) leaf 0 (omega arith) (and_from _ _ p.1 q.1))

  -- and a leaf in common from an edge
  pub leaf_from_edge : CanBeMade made → (before after : Task) → IsOnSpan made before → IsOnSpan made after → is_edge made before after ≡ true → (waits_for after.kind before.kind ≡ true) × ShareLeaf made before after
  leaf_from_edge can before after on on' t =
      let p = and_parts _ _ t in
      let (leaf, cell, within, is, both) = Any-from_list_any (λ at. touches made before at && touches made after at) (leaf_cells made) p.1 in
      let l : leaf < leaf_count made = omega (arith, length-leaf_cells made) in
      let same : cell ≡ leaf_cell leaf = sym (get_or_default (leaf_cells made) leaf 0 cell within ∙ is) in
      let each = and_parts _ _ both in
      let touch : (task : Task) → IsOnSpan made task → touches made task cell ≡ true → TouchesLeaf made task leaf =
      λ task on u. number_from_touches can task leaf on l (subst (λ at. touches made task at ≡ true) same u) in
      (p.0, (leaf, touch before on each.0, touch after on' each.1))

-- the tasks wait for one another at their leaves
pub wait_at_leaves : (made : Made) (tasks : List Task) → CanBeMade made → All (IsOnSpan made) tasks → WaitAtLeaves made tasks (edges_between made tasks)
wait_at_leaves made tasks can on before after l m =
    let at = task_at tasks in
    let on_span : (task : ℕ) → task < length tasks → IsOnSpan made (at task) = λ task below. All-get_or (IsOnSpan made) tasks task (cell_task Drift 0) below on in
    subst (λ waiting. Contains waiting after ↔ ((waits_for (at after).kind (at before).kind ≡ true) × ShareLeaf made (at before) (at after))) (sym (after_of-edges_between made tasks before l)) (
      (λ c. leaf_from_edge made can (at before) (at after) (on_span before l) (on_span after m) (successor_edge made tasks before after c)),
      (λ w. Contains-filter (λ number. is_edge made (at before) (at number)) (range_with_len 0 (length tasks)) after (edge_from_leaf made (at before) (at after) w.0 w.1) (Contains-numbers (length tasks) after m)),
    )
