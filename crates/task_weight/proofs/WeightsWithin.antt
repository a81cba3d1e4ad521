-- The weights by the number of tasks of a path: with as many as there are they are the weights.
use Rattle.std.proofs.Common.{◌≡◌, ℕ, zero, suc, ◌+◌, ◌<◌, ◌≤◌, max, List, map, length, get_or, sym, subst, arith}
use Rattle.std.specs.List.{Contains, fold, range_with_len}
use Rattle.std.proofs.lemmas.List.FromFn.{get_or-map-range_with_len, fill_by_all}
use Rattle.task_weight.specs.Edges.{AreForward}
use Rattle.task_weight.specs.Paths.{after_of, IsWeight, AreWeights, weight_within, weights_of}
use Rattle.task_weight.proofs.GreatestPaths.{map_agree, weight_more}

-- a task has just one weight
weight_unique : (costs : List ℕ) (edges : List (List ℕ)) (task a b : ℕ) → IsWeight costs edges task a → IsWeight costs edges task b → a ≡ b
weight_unique costs edges task a b p q = omega (arith, p.reached, q.reached, p.greatest q.path q.is_path, q.greatest p.path p.is_path)

module _ (costs : List ℕ) (edges : List (List ℕ)) (each : length costs ≡ length edges) (forward : AreForward edges) where
  -- no path from a task has more tasks than there are from it on
  within-IsWeight : (most task : ℕ) → length costs ≤ task + most → task < length costs → IsWeight costs edges task (weight_within costs edges most task)
  unfolding weight_within
  within-IsWeight zero task enough below = absurd (omega arith)
  within-IsWeight (suc most) task enough below =
      let weights = map (weight_within costs edges most) (range_with_len 0 (length costs)) in
      let at : (next : ℕ) → next < length costs → get_or weights next 0 ≡ weight_within costs edges most next =
      λ next l. get_or-map-range_with_len (weight_within costs edges most) 0 (length costs) next next 0 l (omega arith) in
      let low : (next : ℕ) → Contains (after_of edges task) next → (task < next) × (next < length costs) =
      λ next waits. let goes = forward task next (omega arith) waits in (goes.0, omega (arith, goes.1)) in
      subst (λ greatest. IsWeight costs edges task (get_or costs task 0 + fold max 0 greatest))
      (map_agree (λ t. get_or weights t 0) (weight_within costs edges most) (after_of edges task) (λ next waits. at next (low next waits).1))
      (weight_more costs edges weights task (λ next waits.
      let l = low next waits in
      subst (IsWeight costs edges next) (sym (at next l.1)) (within-IsWeight most next (omega (arith, l.0)) l.1)))

  -- weights are the list by its definition
  pub weights_of-only : (weights : List ℕ) → AreWeights costs edges weights → weights ≡ weights_of costs edges
  weights_of-only weights are =
      fill_by_all (weight_within costs edges (length costs)) weights (length costs) 0 are.one_each
      (λ task below. weight_unique costs edges task (get_or weights task 0) (weight_within costs edges (length costs) task) (are.each task below) (within-IsWeight (length costs) task (omega arith) below))
