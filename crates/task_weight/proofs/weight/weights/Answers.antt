use Rattle.std.proofs.Common.{◌≡◌, ℕ, ◌+◌, ◌-◌, ◌<◌, List, length, get_or, ap, ◌∙◌, arith}
use Rattle.task_weight.specs.Paths.{after_of, greatest_weight}
use Rattle.task_weight.proofs.GreatestPaths.{AreFrom-more, after_below, weight_next-le, weights_within}
use Rattle.task_weight.proofs.WeightsWithin.{weights_of-only}
use Rattle.task_weight.proofs.weight.weights.Goals as goal

pub heaviest-requires : goal.heaviest-requires
heaviest-requires c =
    let costs = c.args.costs.now in
    let task = c.loop-task.task - 1 in
    let below : task < length costs = omega arith in
    rw (c.after.ensures, c.deref.ensures.value) (after_below costs c.args.edges.now c.loop-task.weights.items task c.requires.one_each c.requires.forward c.loop-task.invariant.one_each below)

-- the greatest weight among the tasks that wait, by what was read
greatest_read : (weights read tasks waiting : List ℕ) (result : ℕ) → result ≡ greatest_weight read tasks → read ≡ weights → tasks ≡ waiting → result ≡ greatest_weight weights waiting
greatest_read weights read tasks waiting result is same wait = is ∙ ap (λ ws. greatest_weight ws tasks) same ∙ ap (greatest_weight weights) wait

pub overflow_add-costs : goal.overflow_add-costs
overflow_add-costs c =
    let edges = c.args.edges.now in
    let weights = c.loop-task.weights.items in
    let task = c.loop-task.task - 1 in
    let most = weight_next-le c.args.costs.now edges weights task c.loop-task.task c.requires.one_each c.requires.forward c.loop-task.invariant (omega arith) (omega arith) in
    let is = greatest_read weights _ _ (after_of edges task) _ c.heaviest.ensures c.deref.ensures.value c.after.ensures in
    record { fits = omega arith }

pub loop-task-preserved : goal.loop-task-preserved
loop-task-preserved c =
    let costs = c.args.costs.now in
    let edges = c.args.edges.now in
    let weights = c.loop-task.weights.items in
    let task = c.loop-task.task - 1 in
    let is = greatest_read weights _ _ (after_of edges task) _ c.heaviest.ensures c.deref.ensures.value c.after.ensures in
    AreFrom-more costs edges weights task c.loop-task.task (get_or costs task 0 + c.heaviest.result) c.requires.one_each c.requires.forward c.loop-task.invariant (omega arith) (omega arith)
    (ap (λ greatest. get_or costs task 0 + greatest) is)

pub returns-clause-value : goal.returns-clause-value
returns-clause-value c =
    let from = c.loop-task.invariant in
    weights_of-only c.args.costs.now c.args.edges.now c.requires.one_each c.requires.forward c.loop-task.weights.items
    (record { one_each = from.one_each; each = λ task below. from.each task (omega arith) below })

pub returns-clause-within : goal.returns-clause-within
returns-clause-within c =
    let from = c.loop-task.invariant in
    weights_within c.args.costs.now c.args.edges.now c.loop-task.weights.items c.requires.one_each c.requires.forward
    (record { one_each = from.one_each; each = λ task below. from.each task (omega arith) below })
