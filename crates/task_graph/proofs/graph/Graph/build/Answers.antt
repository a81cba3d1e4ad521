use Rattle.std.proofs.Common.{◌<◌, ◌≤◌, ◌^◌, length, map, sym, ap, ◌∙◌, subst, arith}
use Rattle.std.specs.List.{All, sum_by}
use Rattle.std.proofs.lemmas.List.Elements.{All-weaker}
use Rattle.task_weight.specs.Paths.{weights_of}
use Rattle.task_graph.specs.Tasks.{cost_of, tasks_of}
use Rattle.task_graph.proofs.Built.{between, edges_forward, edges_rise, one_cost_each, one_list_each, tasks_few}
use Rattle.task_graph.proofs.LeafBounds.{AreFew, lists_few}
use Rattle.task_graph.proofs.LeafTasks.{costs_small}
use Rattle.task_graph.proofs.MeetingOnce.{meet_once}
use Rattle.task_graph.proofs.OnSpans.{on_spans}
use Rattle.task_graph.proofs.Plans.{AreBuilt, is_plan, plan_is}
use Rattle.task_graph.proofs.SharedLeaves.{wait_at_leaves}
use Rattle.task_graph.proofs.graph.Graph.build.Goals as goal
use Rattle.task_graph.proofs.graph.Graph.build.Goals.{In_ok-costs, In_ok-weights}

pub of-numbers-requires-clause-drifting : goal.of-numbers-requires-clause-drifting
of-numbers-requires-clause-drifting c =
    let few : AreFew c.in_ok-leaves.leaves = lists_few c.in_ok-leaves.ensures.can c.in_ok-leaves.ensures.leaves in
    omega (arith, ap length c.drifting.ensures)

pub of-numbers-requires-clause-dues : goal.of-numbers-requires-clause-dues
of-numbers-requires-clause-dues c =
    let few : AreFew c.in_ok-leaves.leaves = lists_few c.in_ok-leaves.ensures.can c.in_ok-leaves.ensures.leaves in
    omega (arith, ap length c.dues.ensures)

pub waits_of-requires-clause-forward : goal.waits_of-requires-clause-forward
waits_of-requires-clause-forward c =
    edges_forward (c.in_ok-edges.ensures c.args.due.now c.args.drift c.in_ok-leaves.ensures.leaves)

pub waits_of-requires-clause-rising : goal.waits_of-requires-clause-rising
waits_of-requires-clause-rising c =
    edges_rise (c.in_ok-edges.ensures c.args.due.now c.args.drift c.in_ok-leaves.ensures.leaves)

pub costs_of-requires-clause-on_spans : goal.costs_of-requires-clause-on_spans
costs_of-requires-clause-on_spans c =
    rw (c.deref.ensures.value, c.in_ok-tasks.ensures c.args.due.now c.args.drift c.in_ok-leaves.ensures.leaves)
    (on_spans c.args.tree.now c.args.spans.now c.args.due.now c.args.drift c.requires.spans)

pub weights-requires-clause-one_each : goal.weights-requires-clause-one_each
weights-requires-clause-one_each c =
    let tasks = c.in_ok-tasks.ensures c.args.due.now c.args.drift c.in_ok-leaves.ensures.leaves in
    ap length c.deref-2.ensures.value
    ∙ one_cost_each c.args.tree.now (c.deref.ensures.value ∙ tasks) c.in_ok-costs.ensures.costs
    ∙ sym (one_list_each (c.in_ok-edges.ensures c.args.due.now c.args.drift c.in_ok-leaves.ensures.leaves))

pub weights-requires-clause-forward : goal.weights-requires-clause-forward
weights-requires-clause-forward c =
    edges_forward (c.in_ok-edges.ensures c.args.due.now c.args.drift c.in_ok-leaves.ensures.leaves)

-- the costs have a small sum
small : (c : In_ok-costs) → sum_by (λ cost. cost) c.in_ok-costs.costs.items < 2 ^ 62
small c =
    let tasks = c.in_ok-tasks.ensures c.args.due.now c.args.drift c.in_ok-leaves.ensures.leaves in
    let few = tasks_few c.args.tree.now c.args.spans.now c.args.due.now c.args.drift c.in_ok-leaves.ensures.can c.requires.few in
    let each = one_cost_each c.args.tree.now (c.deref.ensures.value ∙ tasks) c.in_ok-costs.ensures.costs in
    costs_small c.in_ok-costs.costs.items c.in_ok-costs.ensures.small (omega arith)

pub weights-requires-clause-few : goal.weights-requires-clause-few
weights-requires-clause-few c =
    let least = small (goal.at.weights-requires-clause-few c).In_ok-costs in
    rw c.deref-2.ensures.value (omega arith)

-- the lists are found one from another
are_built : (c : In_ok-weights) → AreBuilt c.args.tree.now (tasks_of c.args.tree.now c.args.spans.now c.args.due.now c.args.drift) c.in_ok-tasks.tasks.items c.in_ok-edges.edges c.in_ok-waits.waits.items c.in_ok-costs.costs.items c.in_ok-weights.weights.items
are_built c = record {
  tasks_are = c.in_ok-tasks.ensures c.args.due.now c.args.drift c.in_ok-leaves.ensures.leaves;
  edges_are = between (c.in_ok-edges.ensures c.args.due.now c.args.drift c.in_ok-leaves.ensures.leaves);
  waits_are = c.in_ok-waits.ensures;
  costs_are = c.in_ok-costs.ensures.costs ∙ ap (map (cost_of c.args.tree.now)) c.deref.ensures.value;
  weights_are = c.in_ok-weights.ensures.value ∙ ap (λ costs. weights_of costs c.in_ok-edges.edges) c.deref-2.ensures.value;
}

pub invariant_of-result : goal.invariant_of-result
invariant_of-result c = is_plan (are_built c)

pub returns-clause-value : goal.returns-clause-value
returns-clause-value c = plan_is (are_built (goal.at.returns-clause-value c).In_ok-weights)

pub returns-clause-forward : goal.returns-clause-forward
returns-clause-forward c =
    edges_forward (c.in_ok-edges.ensures c.args.due.now c.args.drift c.in_ok-leaves.ensures.leaves)

pub returns-clause-rising : goal.returns-clause-rising
returns-clause-rising c =
    edges_rise (c.in_ok-edges.ensures c.args.due.now c.args.drift c.in_ok-leaves.ensures.leaves)

pub returns-clause-tasks_few : goal.returns-clause-tasks_few
returns-clause-tasks_few c =
    let tasks = c.in_ok-tasks.ensures c.args.due.now c.args.drift c.in_ok-leaves.ensures.leaves in
    rw tasks (tasks_few c.args.tree.now c.args.spans.now c.args.due.now c.args.drift c.in_ok-leaves.ensures.can c.requires.few)

pub returns-clause-on_spans : goal.returns-clause-on_spans
returns-clause-on_spans c =
    rw (c.in_ok-tasks.ensures c.args.due.now c.args.drift c.in_ok-leaves.ensures.leaves)
    (on_spans c.args.tree.now c.args.spans.now c.args.due.now c.args.drift c.requires.spans)

pub returns-clause-meet_once : goal.returns-clause-meet_once
returns-clause-meet_once c =
    rw (c.in_ok-tasks.ensures c.args.due.now c.args.drift c.in_ok-leaves.ensures.leaves)
    (meet_once c.args.tree.now c.args.spans.now c.args.due.now c.args.drift)

pub returns-clause-wait_at_leaves : goal.returns-clause-wait_at_leaves
returns-clause-wait_at_leaves c =
    rw (c.in_ok-tasks.ensures c.args.due.now c.args.drift c.in_ok-leaves.ensures.leaves, between (c.in_ok-edges.ensures c.args.due.now c.args.drift c.in_ok-leaves.ensures.leaves))
    (wait_at_leaves c.args.tree.now (tasks_of c.args.tree.now c.args.spans.now c.args.due.now c.args.drift) c.in_ok-leaves.ensures.can
    (on_spans c.args.tree.now c.args.spans.now c.args.due.now c.args.drift c.requires.spans))

pub returns-clause-costs_small : goal.returns-clause-costs_small
returns-clause-costs_small c = small (goal.at.returns-clause-costs_small c).In_ok-costs

pub returns-clause-weights_small : goal.returns-clause-weights_small
returns-clause-weights_small c =
    let least = small (goal.at.returns-clause-weights_small c).In_ok-costs in
    let costs = c.in_ok-costs.costs.items in
    let within : All (λ weight. weight ≤ sum_by (λ cost. cost) costs) c.in_ok-weights.weights.items =
    subst (λ xs. All (λ weight. weight ≤ sum_by (λ cost. cost) xs) c.in_ok-weights.weights.items) c.deref-2.ensures.value c.in_ok-weights.ensures.within in
    All-weaker (λ weight. weight ≤ sum_by (λ cost. cost) costs) (λ weight. weight < 2 ^ 62) (λ weight l. omega arith) c.in_ok-weights.weights.items within
