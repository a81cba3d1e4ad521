-- Weights found from the last task to the first: what one more task needs, and that no path costs more than all tasks from its first on.
use Rattle.std.proofs.Common.{◌≡◌, ℕ, ◌+◌, ◌-◌, ◌<◌, ◌≤◌, max, List, [], ◌∷◌, map, length, get_or, set, drop, refl, sym, ap, ◌∙◌, subst, inl, inr, ◌⊎◌, arith}
use Rattle.std.specs.List.{All, Contains, fold, sum_by}
use Rattle.std.proofs.lemmas.Bool.{cases_lt}
use Rattle.std.proofs.lemmas.List.{get_or_default, get_or-set_same, get_or-set_other, drop-drop, length-set}
use Rattle.std.proofs.lemmas.List.Elements.{All-contains, Contains-get_or}
use Rattle.std.proofs.lemmas.List.Sums.{sum_by-cons, sum_by-drop_more, sum_by-take-drop}
use Rattle.lists.proofs.Elements.{Contains-head, Contains-later, Contains-map}
use Rattle.lists.proofs.Extremes.{All-fold_max}
use Rattle.task_weight.specs.Edges.{AreForward}
use Rattle.task_weight.specs.Paths.{after_of, IsPathFrom, path_cost, IsWeight, AreWeights, greatest_weight}

-- the greatest weight of some tasks, from one number on: that number, or the weight of one of them
fold_max_reached : (weights : List ℕ) (first : ℕ) (tasks : List ℕ) →
    (fold max first (map (λ t. get_or weights t 0) tasks) ≡ first) ⊎ ((task : ℕ) × Contains tasks task × (fold max first (map (λ t. get_or weights t 0) tasks) ≡ get_or weights task 0))
fold_max_reached weights first [] = inl refl
fold_max_reached weights first (t ∷ tasks) =
    elim (fold_max_reached weights (max first (get_or weights t 0)) tasks) [
      | inl same ↦ elim (cases_lt first (get_or weights t 0)) [
        | inl more ↦ inr (t, Contains-head t tasks, omega arith)
        | inr less ↦ inl (omega arith)
      ]
      | inr found ↦ inr (found.0, Contains-later t tasks found.0 found.1, found.2)
    ]

-- no weight of one of them is more
fold_max_most : (weights : List ℕ) (first : ℕ) (tasks : List ℕ) (task : ℕ) → Contains tasks task → get_or weights task 0 ≤ fold max first (map (λ t. get_or weights t 0) tasks)
fold_max_most weights first tasks task c =
    let all = map (λ t. get_or weights t 0) tasks in
    All-contains (λ weight. weight ≤ fold max first all) all (get_or weights task 0) (All-fold_max first all) (Contains-map (λ t. get_or weights t 0) tasks task c)

-- no costs from a later task on are more
sum_from-le : (costs : List ℕ) (first later : ℕ) → first ≤ later → sum_by (λ cost. cost) (drop later costs) ≤ sum_by (λ cost. cost) (drop first costs)
sum_from-le costs first later l =
    let at : first + (later - first) ≡ later = omega arith in
    let split = sum_by-take-drop (λ cost. cost) (drop first costs) (later - first) in
    let same : drop (later - first) (drop first costs) ≡ drop later costs = drop-drop (later - first) first costs ∙ ap (λ k. drop k costs) at in
    omega (arith, ap (sum_by (λ cost. cost)) same)

-- a path costs no more than all tasks from its first on
path_cost-le : (costs : List ℕ) (edges : List (List ℕ)) → length costs ≡ length edges → AreForward edges → (task : ℕ) (path : List ℕ) → task < length costs → IsPathFrom edges task path →
    path_cost costs task path ≤ sum_by (λ cost. cost) (drop task costs)
path_cost-le costs edges each forward task [] below is = omega (arith, sum_by-drop_more (λ cost. cost) costs task 0 below)
path_cost-le costs edges each forward task (next ∷ path) below is =
    let goes = forward task next (omega arith) is.0 in
    let rest = path_cost-le costs edges each forward next path (omega (arith, goes.1)) is.1 in
    omega (arith, sum_by-drop_more (λ cost. cost) costs task 0 below, sum_by-cons (λ t. get_or costs t 0) next path, sum_from-le costs (task + 1) next (omega (arith, goes.0)))

-- no weight is more than what all tasks cost
pub weights_within : (costs : List ℕ) (edges : List (List ℕ)) (weights : List ℕ) → length costs ≡ length edges → AreForward edges → AreWeights costs edges weights →
    All (λ weight. weight ≤ sum_by (λ cost. cost) costs) weights
weights_within costs edges weights each forward are k d l =
    let long = are.one_each in
    let below : k < length costs = omega arith in
    let w = are.each k below in
    omega (arith, get_or_default weights k d 0 l, w.reached, path_cost-le costs edges each forward k w.path below w.is_path, sum_from-le costs 0 k (omega arith))

-- from one task on, the weights are those of the tasks
pub record AreFrom (costs : List ℕ) (edges : List (List ℕ)) (weights : List ℕ) (first : ℕ) : Type 0 where
  pub one_each : length weights ≡ length costs
  pub each : (task : ℕ) → first ≤ task → task < length costs → IsWeight costs edges task (get_or weights task 0)
  pub follow : (task : ℕ) → first ≤ task → task < length costs → get_or weights task 0 ≡ get_or costs task 0 + greatest_weight weights (after_of edges task)

-- the tasks that wait have weights
pub after_below : (costs : List ℕ) (edges : List (List ℕ)) (weights : List ℕ) (task : ℕ) → length costs ≡ length edges → AreForward edges → length weights ≡ length costs → task < length costs →
    All (λ next. next < length weights) (after_of edges task)
after_below costs edges weights task each forward long below k d l = omega (arith, forward task (get_or (after_of edges task) k d) (omega arith) (Contains-get_or (after_of edges task) k d l))

-- no path costs more than the task and the greatest weight behind it
path_most : (costs : List ℕ) (edges : List (List ℕ)) (weights : List ℕ) (task : ℕ) → ((next : ℕ) → Contains (after_of edges task) next → IsWeight costs edges next (get_or weights next 0)) →
    (other : List ℕ) → IsPathFrom edges task other → path_cost costs task other ≤ get_or costs task 0 + greatest_weight weights (after_of edges task)
path_most costs edges weights task has [] is = omega arith
path_most costs edges weights task has (next ∷ path) is =
    omega (arith, (has next is.0).greatest path is.1, fold_max_most weights 0 (after_of edges task) next is.0, sum_by-cons (λ t. get_or costs t 0) next path)

-- the weight of a task from the weights of those that wait for it
pub weight_more : (costs : List ℕ) (edges : List (List ℕ)) (weights : List ℕ) (task : ℕ) → ((next : ℕ) → Contains (after_of edges task) next → IsWeight costs edges next (get_or weights next 0)) →
    IsWeight costs edges task (get_or costs task 0 + greatest_weight weights (after_of edges task))
weight_more costs edges weights task has =
    let most : (other : List ℕ) → IsPathFrom edges task other → path_cost costs task other ≤ get_or costs task 0 + greatest_weight weights (after_of edges task) = path_most costs edges weights task has in
    elim (fold_max_reached weights 0 (after_of edges task)) [
      | inl none ↦ record { path = []; is_path = tt; reached = omega arith; greatest = most }
      | inr found ↦
          let w = has found.0 found.1 in
          record {
            path = found.0 ∷ w.path;
            is_path = (found.1, w.is_path);
            reached = omega (arith, w.reached, found.2, sum_by-cons (λ t. get_or costs t 0) found.0 w.path);
            greatest = most;
          }
    ]

-- the weight of the task before those that are done
weight_next : (costs : List ℕ) (edges : List (List ℕ)) (weights : List ℕ) (task first : ℕ) → length costs ≡ length edges → AreForward edges → AreFrom costs edges weights first → task + 1 ≡ first → task < length costs →
    IsWeight costs edges task (get_or costs task 0 + greatest_weight weights (after_of edges task))
weight_next costs edges weights task first each forward from next_is below =
    weight_more costs edges weights task
    (λ next waits. let goes = forward task next (omega arith) waits in from.each next (omega (arith, goes.0)) (omega (arith, goes.1)))

-- the new weight is no more than what all tasks cost
pub weight_next-le : (costs : List ℕ) (edges : List (List ℕ)) (weights : List ℕ) (task first : ℕ) → length costs ≡ length edges → AreForward edges → AreFrom costs edges weights first → task + 1 ≡ first → task < length costs →
    get_or costs task 0 + greatest_weight weights (after_of edges task) ≤ sum_by (λ cost. cost) costs
weight_next-le costs edges weights task first each forward from next_is below =
    let w = weight_next costs edges weights task first each forward from next_is below in
    omega (arith, w.reached, path_cost-le costs edges each forward task w.path below w.is_path, sum_from-le costs 0 task (omega arith))

-- functions that agree on the elements
pub map_agree : {X Y : Type 0} (f g : X → Y) (xs : List X) → ((x : X) → Contains xs x → f x ≡ g x) → map f xs ≡ map g xs
map_agree f g [] same = refl
map_agree f g (x ∷ xs) same =
    ap (λ y. y ∷ map f xs) (same x (Contains-head x xs)) ∙ ap (λ ys. g x ∷ ys) (map_agree f g xs (λ y c. same y (Contains-later x xs y c)))

-- a weight that is written changes no later one, nor what is greatest among later tasks
later_kept : (weights : List ℕ) (task weight later : ℕ) → task < later → get_or (set weights task weight) later 0 ≡ get_or weights later 0
later_kept weights task weight later l = get_or-set_other weights task later weight 0 (λ e. omega arith)

greatest_kept : (costs : List ℕ) (edges : List (List ℕ)) (weights : List ℕ) (task weight later : ℕ) → length costs ≡ length edges → AreForward edges → task ≤ later → later < length costs →
    greatest_weight (set weights task weight) (after_of edges later) ≡ greatest_weight weights (after_of edges later)
greatest_kept costs edges weights task weight later each forward l below =
    ap (fold max 0) (map_agree (λ t. get_or (set weights task weight) t 0) (λ t. get_or weights t 0) (after_of edges later)
    (λ next waits. let goes = forward later next (omega arith) waits in later_kept weights task weight next (omega (arith, goes.0))))

-- one more task, before those that are done
pub AreFrom-more : (costs : List ℕ) (edges : List (List ℕ)) (weights : List ℕ) (task first weight : ℕ) → length costs ≡ length edges → AreForward edges → AreFrom costs edges weights first → task + 1 ≡ first → task < length costs →
    weight ≡ get_or costs task 0 + greatest_weight weights (after_of edges task) → AreFrom costs edges (set weights task weight) task
AreFrom-more costs edges weights task first weight each forward from next_is below is =
    let long = from.one_each in
    let here : get_or (set weights task weight) task 0 ≡ weight = get_or-set_same weights task weight 0 (omega arith) in
    record {
      one_each = length-set weights task weight ∙ long;
      each = λ t l low. elim (cases_lt task t) [
        | inl later ↦ subst (IsWeight costs edges t) (sym (later_kept weights task weight t later)) (from.each t (omega arith) low)
        | inr not_later ↦
            let same : task ≡ t = omega arith in
            subst (λ k. IsWeight costs edges k (get_or (set weights task weight) k 0)) same
            (subst (IsWeight costs edges task) (sym (here ∙ is)) (weight_next costs edges weights task first each forward from next_is below))
      ];
      follow = λ t l low.
          let kept = greatest_kept costs edges weights task weight t each forward l low in
          elim (cases_lt task t) [
            | inl later ↦ omega (arith, later_kept weights task weight t later, from.follow t (omega arith) low)
            | inr not_later ↦
                let same : task ≡ t = omega arith in
                subst (λ k. get_or (set weights task weight) k 0 ≡ get_or costs k 0 + greatest_weight (set weights task weight) (after_of edges k)) same
                (here ∙ is ∙ ap (λ n. get_or costs task 0 + n) (sym (greatest_kept costs edges weights task weight task each forward (omega arith) below)))
          ];
    }
