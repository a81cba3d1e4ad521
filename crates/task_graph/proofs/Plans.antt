-- The graph from its lists, and that it has one element for each task.
use Rattle.std.proofs.Common.{◌≡◌, ℕ, List, length, map, ap, ◌∙◌, sym, subst}
use Rattle.std.proofs.lemmas.List.{length-map}
use Rattle.std.proofs.lemmas.List.FromFn.{length-map-range_with_len, length-range_with_len}
use Rattle.std.specs.List.{range_with_len}
use Rattle.cell_tree.specs.Tree.{Made}
use Rattle.task_weight.specs.Paths.{weight_within, weights_of}
use Rattle.task_graph.specs.declared.task.Task.{Task}
use Rattle.task_graph.specs.Graph.{IsPlan, edges_between, edges_into, plan_of}
use Rattle.task_graph.specs.inner.Parts.{plan_with}
use Rattle.task_graph.specs.Tasks.{cost_of}
use Rattle.task_graph.proofs.Forward.{length-edges_between}

-- the lists are found one from another
pub record AreBuilt (made : Made) (all tasks : List Task) (edges : List (List ℕ)) (waits costs weights : List ℕ) : Type 0 where
  pub tasks_are : tasks ≡ all
  pub edges_are : edges ≡ edges_between made all
  pub waits_are : waits ≡ map (edges_into edges) (range_with_len 0 (length edges))
  pub costs_are : costs ≡ map (cost_of made) tasks
  pub weights_are : weights ≡ weights_of costs edges

module _ {made : Made} {all tasks : List Task} {edges : List (List ℕ)} {waits costs weights : List ℕ} (are : AreBuilt made all tasks edges waits costs weights) where
  -- so they are those of the graph
  pub plan_is : plan_with tasks edges waits costs weights ≡ plan_of made all
  plan_is =
      let between = edges_between made all in
      let into = map (edges_into between) (range_with_len 0 (length all)) in
      let waits_into = are.waits_are ∙ ap (λ e. map (edges_into e) (range_with_len 0 (length e))) are.edges_are ∙ ap (λ n. map (edges_into between) (range_with_len 0 n)) (length-edges_between made all) in
      let costs_all = are.costs_are ∙ ap (map (cost_of made)) are.tasks_are in
      let weights_all = are.weights_are ∙ ap (λ c. weights_of c edges) costs_all ∙ ap (weights_of (map (cost_of made) all)) are.edges_are in
      ap (λ x. plan_with x edges waits costs weights) are.tasks_are
      ∙ ap (λ x. plan_with all x waits costs weights) are.edges_are
      ∙ ap (λ x. plan_with all between x costs weights) waits_into
      ∙ ap (λ x. plan_with all between into x weights) costs_all
      ∙ ap (λ x. plan_with all between into (map (cost_of made) all) x) weights_all

  pub is_plan : IsPlan (plan_with tasks edges waits costs weights)
  is_plan =
      let costs_all = map (cost_of made) all in
      subst IsPlan (sym plan_is) (record {
        one_list_each = length-edges_between made all;
        one_wait_each = length-map (range_with_len 0 (length all)) (edges_into (edges_between made all)) ∙ length-range_with_len 0 (length all);
        one_cost_each = length-map all (cost_of made);
        one_weight_each = length-map-range_with_len (weight_within costs_all (edges_between made all) (length costs_all)) 0 (length costs_all) ∙ length-map all (cost_of made);
      })
