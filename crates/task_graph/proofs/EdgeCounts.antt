-- Edges counted at their ends.
use Rattle.std.proofs.Common.{◌≡◌, ℕ, ◌<◌, ◌≤◌, cond, eqb, List, [], length, take, get_or, refl, sym, ap, ◌∙◌, subst, count_by, arith, length-take}
use Rattle.std.specs.List.{All}
use Rattle.std.specs.List.Sorted.{IsStrictlyIncreasing}
use Rattle.std.proofs.lemmas.Bool.{eqb-true, eq-eqb}
use Rattle.std.proofs.lemmas.List.{get_or_default}
use Rattle.std.proofs.lemmas.List.Elements.{All-take}
use Rattle.std.proofs.lemmas.List.Kept.{AllPairs-from_increasing}
use Rattle.std.proofs.lemmas.List.Sums.{sum_by_more_le, sum_by-le}
use Rattle.lists.proofs.Rising.{count_one}
use Rattle.task_weight.specs.Paths.{after_of}
use Rattle.task_graph.specs.Graph.{edges_into}

-- a number stands in a rising list at most once
pub once : (tasks : List ℕ) → IsStrictlyIncreasing tasks → (task : ℕ) → count_by (λ after. eqb after task) tasks ≤ 1
once tasks rising task =
    count_one (λ after. eqb after task) tasks (AllPairs-from_increasing tasks rising) (λ x y _ _ p q. eqb-true x task p ∙ sym (eqb-true y task q))

-- so none of the numbers before one of the list is it
pub none_before : (tasks : List ℕ) → IsStrictlyIncreasing tasks → (i : ℕ) → i < length tasks → count_by (λ after. eqb after (get_or tasks i 0)) (take i tasks) ≡ 0
none_before tasks rising i below =
    let task = get_or tasks i 0 in
    let one = once tasks rising task in
    let more = sum_by_more_le (λ after. cond (eqb after task) 1 0) tasks i 0 below in
    let here : ◌≡◌ {A = ℕ} (cond (eqb task task) 1 0) 1 = ap (λ b. cond b 1 0) (eq-eqb task task refl) in
    omega arith

-- into a task goes at most one edge from each
pub edges_into-le : (edges : List (List ℕ)) → ((task : ℕ) → task < length edges → IsStrictlyIncreasing (after_of edges task)) → (n task : ℕ) → n ≤ length edges → edges_into (take n edges) task ≤ n
edges_into-le edges rising n task few =
    let each : All (λ afters. count_by (λ after. eqb after task) afters ≤ 1) edges =
    λ k d below. subst (λ afters. count_by (λ after. eqb after task) afters ≤ 1) (get_or_default edges k [] d below) (once (after_of edges k) (rising k below) task) in
    omega (arith, sum_by-le (count_by (λ after. eqb after task)) 1 (take n edges) (All-take (λ afters. count_by (λ after. eqb after task) afters ≤ 1) n edges each), length-take n edges)
