-- The edges into a task that aren't released are as many as are counted.
use Rattle.std.proofs.Common.{◌≡◌, ◌↔◌, ℕ, ◌+◌, ◌<◌, ◌≤◌, ◌==◌, true, cond, List, length, slice_index, filter, sum_by, count_by, Contains, Option, Some, None, refl, sym, ap, ◌∙◌, subst, inl, inr, arith}
use Rattle.std.specs.List.{range_with_len}
use Rattle.std.proofs.lemmas.Bool.{cases_eq, cases_lt, cond-true, cond-false, eq-eqb, ne_eqb, eqb-true}
use Rattle.std.proofs.lemmas.List.Elements.{All-contains, filter_passes}
use Rattle.std.proofs.lemmas.List.FromFn.{length-range_with_len}
use Rattle.std.proofs.lemmas.List.Sums.{length-filter, sum_by-le}
use Rattle.lists.proofs.Ranges.{below_from_numbers, Contains-numbers, count-range, sum_by-range_change}
use Rattle.lists.proofs.Sums.{some_share, sum_by-none, one_in_all, sum_by-add, sum_by-turned, sum_by-le_each}
use Rattle.lists.proofs.Places.{get_from_Contains}
use Rattle.lists.proofs.Counts.{Contains-from_count, count-pos, count-filter}
use Rattle.lists.proofs.Elements.{All-from_Contains, Contains-filter, Contains-from_filter}
use Rattle.qs_core.specs.Shape.{Shape, IsEdge, IsShape, task_at}
use Rattle.qs_core.specs.Core.{Core, Running, View, claimed_word, task_place}
use Rattle.qs_core.specs.Sound.{edges_from, IsClaimed, IsReleased, IsSound, IsView, left_in, unreleased}
use Rattle.qs_core.specs.Laws.{UnreleasedAreCounted}
use Rattle.qs_core.proofs.ReleasedEdges.{edges_from-claimed, edges_from-other}
use Rattle.qs_core.proofs.Views.{part-le-sum_by}

-- how many edges from a task into another a view has left
abbrev left_from : Option Running → ℕ → ℕ → ℕ
left_from None after before = 0
left_from (Some running) after before = cond (running.task == before) (count_by (λ s. s == after) running.successors) 0

-- then the view runs the task with the successor left
record HasLeft (o : Option Running) (after before : ℕ) : Type 0 where
  running : Running
  is : o ≡ Some running
  of_task : running.task ≡ before
  left : Contains running.successors after

has_left : (o : Option Running) (after before : ℕ) → 0 < left_from o after before → HasLeft o after before
has_left None after before l = absurd (omega arith)
has_left (Some running) after before l = elim (cases_eq running.task before) [
  | inl e ↦
      let t = cond-true (running.task == before) (count_by (λ s. s == after) running.successors) 0 (eq-eqb _ _ e) in
      record { running = running; is = refl; of_task = e; left = Contains-from_count running.successors after (omega arith) }
  | inr n ↦ let f = cond-false (running.task == before) (count_by (λ s. s == after) running.successors) 0 (ne_eqb _ _ n) in absurd (omega arith)
]

module _ (shape : Shape) (core : Core) (after : ℕ) (s : IsShape shape) (sound : IsSound shape core) where
  -- the tasks, and the edges from one of them that aren't released: those left in views, and all
  abbrev all_tasks : List ℕ
  all_tasks = range_with_len 0 (length shape.tasks)

  abbrev left_of : ℕ → ℕ
  left_of before = sum_by (λ (v : View). left_from v.running after before) core.views

  abbrev edges_of : ℕ → ℕ
  edges_of before = edges_from shape core after before + left_of before

  -- a view has one left at most
  each_left : (seat : ℕ) (view : View) → IsView core seat view → (before : ℕ) → left_from view.running after before ≤ 1
  each_left seat view v before = go view.running refl
    where
      go : (o : Option Running) → view.running ≡ o → left_from o after before ≤ 1
      go None e = omega arith
      go (Some running) e = elim (cases_eq running.task before) [
        | inl same ↦
            let t = cond-true (running.task == before) (count_by (λ t. t == after) running.successors) 0 (eq-eqb _ _ same) in
            let few = ((sound.tasks.runs seat view running v e).successors after).1 in
            omega arith
        | inr n ↦ let f = cond-false (running.task == before) (count_by (λ t. t == after) running.successors) 0 (ne_eqb _ _ n) in omega arith
      ]

  left_few : (before : ℕ) → left_of before ≤ 1
  left_few before = one_in_all (λ (v : View). left_from v.running after before) core.views
      (λ v h. let w = get_from_Contains core.views v h in each_left w.0 v (record { is = w.1 }) before) (λ i j x y p q l m.
      let a = has_left x.running after before l in
      let b = has_left y.running after before m in
      sound.tasks.one_runs i j before x y a.running b.running (record { is = p }) (record { is = q }) (record { is = a.is; of_task = a.of_task })
      (record { is = b.is; of_task = b.of_task }))

  -- a task with an edge left in a view is claimed
  left_claimed : (before : ℕ) (view : View) → Contains core.views view → 0 < left_from view.running after before → IsClaimed shape core before
  left_claimed before view h l =
      let w = get_from_Contains core.views view h in
      let a = has_left view.running after before l in
      subst (λ t. IsClaimed shape core t) a.of_task (sound.tasks.runs w.0 view a.running (record { is = w.1 }) a.is).claimed

  few_edges : (before : ℕ) → before < length shape.tasks → edges_of before ≤ 1
  few_edges before l = elim (cases_eq (slice_index core.words (task_place shape before)) claimed_word) [
    | inl c ↦ let none = edges_from-claimed shape core after before c in let few = left_few before in omega arith
    | inr n ↦
        let all = edges_from-other shape core after before n in
        let once = (s.tasks before l).once after in
        let none = sum_by-none (λ (v : View). left_from v.running after before) core.views
        (λ v h. elim (cases_lt 0 (left_from v.running after before)) [ inl some ↦ absurd (n (left_claimed before v h some)) | inr z ↦ omega arith ]) in
        omega arith
  ]

  -- one counts just where there is an edge that isn't released
  edge_counts : (before : ℕ) → IsEdge shape before after → (IsReleased shape core before after → ⊥) → 0 < edges_of before
  edge_counts before edge n = elim (cases_lt 0 (edges_of before)) [
    | inl l ↦ l
    | inr z ↦ absurd (n (record {
      claimed = elim (cases_eq (slice_index core.words (task_place shape before)) claimed_word) [
        | inl c ↦ c
        | inr m ↦ let all = edges_from-other shape core after before m in let some = count-pos (task_at shape before).successors after edge in absurd (omega arith)
      ];
      none_left = λ seat view running v r c.
          let part = part-le-sum_by (λ (w : View). left_from w.running after before) core seat view v in
          let here : left_from view.running after before ≡ left_from (Some running) after before = ap (λ (o : Option Running). left_from o after before) r.is in
          let t = cond-true (running.task == before) (count_by (λ t. t == after) running.successors) 0 (eq-eqb _ _ r.of_task) in
          let some = count-pos running.successors after c in
          omega arith;
    }))
  ]

  counts_edge : (before : ℕ) → 0 < edges_of before → IsEdge shape before after × (IsReleased shape core before after → ⊥)
  counts_edge before l = elim (cases_lt 0 (edges_from shape core after before)) [
    | inl some ↦ elim (cases_eq (slice_index core.words (task_place shape before)) claimed_word) [
      | inl c ↦ let none = edges_from-claimed shape core after before c in absurd (omega arith)
      | inr n ↦ let all = edges_from-other shape core after before n in (Contains-from_count (task_at shape before).successors after (omega arith), λ r. n r.claimed)
    ]
    | inr none ↦
        let w = some_share (λ (v : View). left_from v.running after before) core.views (omega arith) in
        let g = get_from_Contains core.views w.0 w.1 in
        let a = has_left w.0.running after before w.2 in
        let v : IsView core g.0 w.0 = record { is = g.1 } in
        let runs = sound.tasks.runs g.0 w.0 a.running v a.is in (
          subst (λ t. IsEdge shape t after) a.of_task ((runs.successors after).0 a.left),
          λ r. r.none_left g.0 w.0 a.running v (record { is = a.is; of_task = a.of_task }) a.left,
        )
  ]

  -- what a view has left comes from the one task that it runs
  one_view : (view : View) → Contains core.views view → sum_by (λ before. left_from view.running after before) all_tasks ≡ left_in view.running after
  one_view view h = go view.running refl
    where
      go : (o : Option Running) → view.running ≡ o → sum_by (λ before. left_from o after before) all_tasks ≡ left_in o after
      go None e = sum_by-none (λ before. 0) all_tasks (λ before c. refl)
      go (Some running) e =
          let w = get_from_Contains core.views view h in
          let below = (sound.tasks.runs w.0 view running (record { is = w.1 }) e).is_task in
          let change = sum_by-range_change (λ before. left_from (Some running) after before) (λ before. 0) running.task 0 (length shape.tasks)
          (λ i n. cond-false (running.task == i) (count_by (λ t. t == after) running.successors) 0 (ne_eqb _ _ (λ q. n (sym q)))) (omega arith) (omega arith) in
          let zero = sum_by-none (λ before. 0) all_tasks (λ before c. refl) in
          let t = cond-true (running.task == running.task) (count_by (λ t. t == after) running.successors) 0 (eq-eqb _ _ refl) in
          omega arith

  total : sum_by edges_of all_tasks ≡ unreleased shape core after
  total =
      let a = sum_by-add (edges_from shape core after) left_of all_tasks in
      let b = sum_by-turned (λ before (v : View). left_from v.running after before) all_tasks core.views in
      let c = sum_by-le_each (λ (v : View). sum_by (λ before. left_from v.running after before) all_tasks) (λ (v : View). left_in v.running after) core.views
      (λ v h. let e = one_view v h in omega arith) in
      let d = sum_by-le_each (λ (v : View). left_in v.running after) (λ (v : View). sum_by (λ before. left_from v.running after before) all_tasks) core.views
      (λ v h. let e = one_view v h in omega arith) in
      omega arith

  -- so no more than there are tasks
  pub unreleased-few : unreleased shape core after ≤ length shape.tasks
  unreleased-few =
      let few = sum_by-le edges_of 1 all_tasks (All-from_Contains (λ before. edges_of before ≤ 1) all_tasks (λ before h. few_edges before (below_from_numbers (length shape.tasks) before h))) in
      let long = length-range_with_len 0 (length shape.tasks) in
      let t = total in
      omega arith

  -- the tasks that count, one each
  abbrev unreleased_tasks : List ℕ
  unreleased_tasks = filter (λ before. edges_of before == 1) all_tasks

  one_each : (before : ℕ) → Contains all_tasks before → edges_of before ≡ cond (edges_of before == 1) 1 0
  one_each before h =
      let few = few_edges before (below_from_numbers (length shape.tasks) before h) in
      elim (cases_eq (edges_of before) 1) [
        | inl e ↦ e ∙ sym (cond-true (edges_of before == 1) 1 0 (eq-eqb _ _ e))
        | inr n ↦ let zero : edges_of before ≡ 0 = omega arith in zero ∙ sym (cond-false (edges_of before == 1) 1 0 (ne_eqb _ _ n))
      ]

  as_many : length unreleased_tasks ≡ unreleased shape core after
  as_many =
      let a = length-filter (λ before. edges_of before == 1) all_tasks in
      let b = sum_by-le_each edges_of (λ before. cond (edges_of before == 1) 1 0) all_tasks (λ before h. let e = one_each before h in omega arith) in
      let c = sum_by-le_each (λ before. cond (edges_of before == 1) 1 0) edges_of all_tasks (λ before h. let e = one_each before h in omega arith) in
      let t = total in
      omega arith

  just_those : (before : ℕ) → Contains unreleased_tasks before ↔ ((before < length shape.tasks) × IsEdge shape before after × (IsReleased shape core before after → ⊥))
  just_those before = (
    λ h.
        let within = below_from_numbers (length shape.tasks) before (Contains-from_filter (λ b. edges_of b == 1) all_tasks before h) in
        let one = eqb-true (edges_of before) 1 (All-contains (λ b. (edges_of b == 1) ≡ true) unreleased_tasks before (filter_passes (λ b. edges_of b == 1) all_tasks) h) in
        let edge = counts_edge before (omega arith) in
        (within, edge.0, edge.1),
    λ w.
        let few = few_edges before w.0 in
        let some = edge_counts before w.1 w.2 in
        Contains-filter (λ b. edges_of b == 1) all_tasks before (eq-eqb (edges_of before) 1 (omega arith)) (Contains-numbers (length shape.tasks) before w.0),
  )

pub unreleased_are_counted : UnreleasedAreCounted
unreleased_are_counted shape core after s sound = (
  unreleased_tasks shape core after s sound,
  record {
    just = just_those shape core after s sound;
    once = λ before. let a = count-filter (λ b. edges_of shape core after s sound b == 1) (λ t. t == before) (all_tasks shape core after s sound) in let b = count-range 0 (length shape.tasks) before in omega arith;
    counted = as_many shape core after s sound;
  },
)
