-- The opening state is sound.
use Rattle.std.proofs.Common.{◌≡◌, ℕ, zero, suc, ◌+◌, ◌-◌, ◌<◌, ◌≤◌, ◌==◌, List, ◌++◌, length, map, replicate, take, get_or, slice_index, sum_by, count_by, Contains, Some, None, refl, sym, ap, ◌∙◌, subst, arith, length-append}
use Rattle.std.specs.List.{range_with_len}
use Rattle.std.proofs.lemmas.List.{length-replicate, get_or-replicate, get_or_append_left, get_or-append_right, replicate-append-replicate}
use Rattle.std.proofs.lemmas.List.Elements.{All-from_get_or}
use Rattle.std.proofs.lemmas.List.FromFn.{length-map-range_with_len, get_or-map-range_with_len}
use Rattle.std.proofs.lemmas.List.Folds.{sum_by-replicate}
use Rattle.std.proofs.lemmas.List.Sums.{sum_by-le}
use Rattle.std.proofs.lemmas.Option.{slice_get_within, get_or_from_slice_get, none-some}
use Rattle.lists.proofs.Ranges.{sum_by-places, sum_by-range_same}
use Rattle.qs_core.specs.Shape.{Shape, TaskShape, IsShape, edges_into, task_at, no_task, ancestors}
use Rattle.qs_core.specs.Core.{Chain, View, Running, empty_view, opening, cell_place, leaf_place, task_place, word_count}
use Rattle.qs_core.specs.Sound.{IsView, IsClaimed, AreChains, left_in, unclaimed_edges, unreleased, edges_from}
use Rattle.qs_core.specs.Laws.{OpeningIsSound}
use Rattle.qs_core.proofs.Chains.{no_chains}
use Rattle.qs_core.proofs.Views.{task_at-get_or}
use Rattle.qs_core.proofs.ReleasedEdges.{edges_from-other}

-- a seat's view at the opening
view_is_empty : (shape : Shape) (seats seat : ℕ) (view : View) → IsView (opening shape seats) seat view → empty_view ≡ view
view_is_empty shape seats seat view v =
    let l : seat < seats = subst (λ n. seat < n) (length-replicate seats empty_view) (slice_get_within (replicate seats empty_view) seat view v.is) in
    sym (get_or-replicate seats seat empty_view empty_view l) ∙ get_or_from_slice_get (replicate seats empty_view) seat view empty_view v.is

-- no view of the opening runs a task
none_runs : (shape : Shape) (seats seat : ℕ) (view : View) (running : Running) → IsView (opening shape seats) seat view → view.running ≡ Some running → ⊥
none_runs shape seats seat view running v r =
    let e : None ≡ Some running = ap (λ (w : View). w.running) (view_is_empty shape seats seat view v) ∙ r in
    none-some running e

-- the words after the seats' own: those of cells and leaves
abbrev zeros_of : Shape → List ℕ
zeros_of shape = replicate (length shape.parents) 0 ++ replicate shape.leaves 0

-- and those of tasks
abbrev counts_of : Shape → List ℕ
counts_of shape = map (edges_into shape) (range_with_len 0 (length shape.tasks))

-- how many words cells and leaves have
length-zeros_of : (shape : Shape) → length (zeros_of shape) ≡ length shape.parents + shape.leaves
length-zeros_of shape =
    length-append (replicate (length shape.parents) 0) (replicate shape.leaves 0)
    ∙ omega (arith, length-replicate (length shape.parents) (zero), length-replicate shape.leaves (zero))

-- how many words there are
length-words : (shape : Shape) (seats : ℕ) → length (opening shape seats).words ≡ word_count shape
length-words shape seats =
    let a = length-append (zeros_of shape) (counts_of shape) in
    let b = length-map-range_with_len (edges_into shape) 0 (length shape.tasks) in
    let c = length-zeros_of shape in
    omega arith

-- the words of cells and leaves are 0
word-zero : (shape : Shape) (seats i : ℕ) → i < length shape.parents + shape.leaves → slice_index (opening shape seats).words (suc i) ≡ 0
word-zero shape seats i l =
    let c = length-zeros_of shape in
    let e : zeros_of shape ≡ replicate (length shape.parents + shape.leaves) 0 = replicate-append-replicate (length shape.parents) shape.leaves 0 in
    get_or_append_left (zeros_of shape) (counts_of shape) 0 i (omega arith) ∙ ap (λ (ws : List ℕ). get_or ws i 0) e ∙ get_or-replicate (length shape.parents + shape.leaves) i 0 0 l

-- the word of a task is the number of edges into it
word-of_task : (shape : Shape) (seats task : ℕ) → task < length shape.tasks → slice_index (opening shape seats).words (task_place shape task) ≡ edges_into shape task
word-of_task shape seats task l =
    let e : task_place shape task ≡ suc (length shape.parents + shape.leaves + task) = omega arith in
    let right = get_or-append_right (zeros_of shape) (counts_of shape) (length shape.parents + shape.leaves) (length shape.parents + shape.leaves + task) 0 (length-zeros_of shape) (omega arith) in
    let place : length shape.parents + shape.leaves + task - (length shape.parents + shape.leaves) ≡ task = omega arith in
    ap (slice_index (opening shape seats).words) e ∙ right ∙ ap (λ i. get_or (counts_of shape) i 0) place
    ∙ get_or-map-range_with_len (edges_into shape) 0 (length shape.tasks) task task 0 l (omega arith)

-- a task has at most one edge into another
pub edges_into-le : (shape : Shape) (task : ℕ) → IsShape shape → edges_into shape task ≤ length shape.tasks
edges_into-le shape task s =
    let f = λ (t : TaskShape). count_by (λ after. after == task) t.successors in
    let each : (i : ℕ) → i < length shape.tasks → f (get_or shape.tasks i no_task) ≤ 1 = λ i l. subst (λ (t : TaskShape). f t ≤ 1) (task_at-get_or shape i) ((s.tasks i l).once task) in
    let m = sum_by-le f 1 shape.tasks (All-from_get_or (λ t. f t ≤ 1) shape.tasks no_task each) in
    omega arith

-- no task is claimed at the opening
pub none_claimed : (shape : Shape) (seats task : ℕ) → IsShape shape → task < length shape.tasks → IsClaimed shape (opening shape seats) task → ⊥
none_claimed shape seats task s l c =
    let w = word-of_task shape seats task l in
    let m = edges_into-le shape task s in
    let few = s.few_tasks in
    omega arith

-- no edge is released at the opening
unclaimed-all : (shape : Shape) (seats task : ℕ) → IsShape shape → unclaimed_edges shape (opening shape seats) task ≡ edges_into shape task
unclaimed-all shape seats task s =
    sum_by-range_same (edges_from shape (opening shape seats) task) (λ before. count_by (λ t. t == task) (task_at shape before).successors) 0 (length shape.tasks)
    (λ i low high. edges_from-other shape (opening shape seats) task i (none_claimed shape seats i s (omega arith)))
    ∙ sum_by-places (λ (t : TaskShape). count_by (λ after. after == task) t.successors) no_task (λ before. count_by (λ t. t == task) (task_at shape before).successors) shape.tasks 0
    (λ i l. ap (λ (t : TaskShape). count_by (λ a. a == task) t.successors) (ap (task_at shape) (omega arith) ∙ task_at-get_or shape i))

-- none is released
unreleased-all : (shape : Shape) (seats task : ℕ) → IsShape shape → unreleased shape (opening shape seats) task ≡ edges_into shape task
unreleased-all shape seats task s =
    let a = unclaimed-all shape seats task s in
    let b = sum_by-replicate (λ (v : View). left_in v.running task) seats empty_view in
    omega arith

-- no view of the opening has a chain
chains_are : (shape : Shape) (seats seat : ℕ) (view : View) → IsView (opening shape seats) seat view → AreChains shape (opening shape seats).views view.chains
chains_are shape seats seat view v = subst (λ (w : View). AreChains shape (opening shape seats).views w.chains) (view_is_empty shape seats seat view v) (no_chains shape (opening shape seats).views)

-- the opening state is sound
pub opening_is_sound : OpeningIsSound
opening_is_sound shape seats s = record {
  locks = record {
    words = length-words shape seats;
    seat_word = refl;
    cells = record {
      cell_words = λ cell l.
          let w = word-zero shape seats cell (omega arith) in
          let a = sum_by-replicate (λ (v : View). count_by (λ (c : Chain). c.cell == cell) v.chains) seats empty_view in
          let b = sum_by-replicate (λ (v : View). sum_by (λ (c : Chain). count_by (λ a. a == cell) (take c.raises (ancestors shape c.cell))) v.chains) seats empty_view in
          let e : cell_place shape cell ≡ suc cell = omega arith in
          ap (slice_index (opening shape seats).words) e ∙ w ∙ omega arith;
      one_lock = λ cell. let a = sum_by-replicate (λ (v : View). count_by (λ (c : Chain). c.cell == cell) v.chains) seats empty_view in omega arith;
      chains = chains_are shape seats;
    };
    leaves = record {
      leaf_words = λ leaf l.
          let w = word-zero shape seats (length shape.parents + leaf) (omega arith) in
          let a = sum_by-replicate (λ (v : View). count_by (λ l. l == leaf) v.out) seats empty_view in
          let e : leaf_place shape leaf ≡ suc (length shape.parents + leaf) = omega arith in
          ap (slice_index (opening shape seats).words) e ∙ w ∙ omega arith;
      one_out = λ leaf. let a = sum_by-replicate (λ (v : View). count_by (λ l. l == leaf) v.out) seats empty_view in omega arith;
      outs = λ seat view leaf v c.
          let c' = subst (λ (w : View). Contains w.out leaf) (sym (view_is_empty shape seats seat view v)) c in
          absurd (let l = c'.1 in omega arith);
    };
  };
  tasks = record {
    runs = λ seat view running v r. absurd (none_runs shape seats seat view running v r);
    one_runs = λ seat seat' task view view' running running' v v' r r'. absurd (none_runs shape seats seat view running v r.is);
    task_words = λ task l n. word-of_task shape seats task l ∙ sym (unreleased-all shape seats task s);
    claimed_ready = λ task l c. absurd (none_claimed shape seats task s l c);
    in_order = λ before after leaf b a edge c. absurd (none_claimed shape seats after s a c);
  };
}
