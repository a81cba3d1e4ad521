-- The ready list: what is freed comes into it once, and it is no longer than there are tasks.
use Rattle.std.proofs.Common.{◌≡◌, ◌⊎◌, ◌==◌, ◌&&◌, ℕ, ◌+◌, ◌<◌, ◌≤◌, Bool, true, false, cond, List, [], ◌∷◌, ◌++◌, All, Contains, count_by, length, map, Some, None, refl, sym, ap, ◌∙◌, subst, inl, inr, ne_eqb, arith}
use Rattle.std.specs.List.{cons_option}
use Rattle.std.proofs.lemmas.Bool.{cases_eq, cases_lt}
use Rattle.std.proofs.lemmas.List.Elements.{All-append, All-contains, All-cons, All-head, All-nil, All-push, All-tail, All-weaker, Contains-get_or}
use Rattle.std.proofs.lemmas.List.Sums.{sum_by-append, sum_by-cons, sum_by_push}
use Rattle.lists.proofs.Counts.{Contains-from_count, count-pos, count-zero, one_if, one_if-other, one_if-same}
use Rattle.lists.proofs.Elements.{All-from_Contains, Contains-map}
use Rattle.lists.proofs.Ranges.{part-le-range}
use Rattle.lists.proofs.Sums.{few_for_places, share-le, some_share}
use Rattle.qs_core.specs.declared.event.Note.{Note}
use Rattle.qs_core.specs.declared.event.StepKind.{StepKind}
use Rattle.qs_core.specs.declared.event.StepKind.TheVariants.{Lock, Raise, Lower, Unlock, Fetch, Return, Claim, Release}
use Rattle.qs_core.specs.Shape.{IsEdge, IsShape, Shape, TaskShape, edges_into, no_task, task_at}
use Rattle.qs_core.proofs.Views.{task_at-get_or}
use Rattle.qs_table.specs.Claims.{AreReleasesOf, freed_in, freed_of}
use Rattle.qs_table.specs.Notes.{frees_task, releases}
use Rattle.lists.proofs.Words.{length_is_sum}
use Rattle.qs_worker.specs.ReadyLists.{IsFirstTask, IsReadyList, WaitsForNone}

-- a list of different numbers below another is no longer than that
pub few_below : (xs : List ℕ) (n : ℕ) → ((x : ℕ) → Contains xs x → x < n) → ((k : ℕ) → count_by (λ x. x == k) xs ≤ 1) → length xs ≤ n
few_below xs n below once =
    let long = length_is_sum xs in
    let few = few_for_places (λ (x : ℕ). 1) one_if xs n (λ x c. let part = part-le-range (one_if x) x n (below x c) in let one = one_if-same x x refl in omega (arith, part, one)) once in
    omega (arith, long, few)

pub few_ready : (shape : Shape) (notes : List Note) (ready : List ℕ) → IsReadyList shape notes ready → length ready ≤ length shape.tasks
few_ready shape notes ready r = few_below ready (length shape.tasks) (λ x c. All-contains (λ (t : ℕ). t < length shape.tasks) ready x r.are_tasks c) r.differ

-- no more tasks wait for one than there are
pub few_successors : (shape : Shape) (task : ℕ) → IsShape shape → task < length shape.tasks → length (task_at shape task).successors ≤ length shape.tasks
few_successors shape task laws l = let here = laws.tasks task l in few_below (task_at shape task).successors (length shape.tasks) (λ x c. (here.later x c).1) here.once

-- what is freed, counted by the notes that free it
with_seen : (c : Bool) → cond {A = ℕ} c 1 0 ≡ cond (c && true) 1 0
with_seen true = refl
with_seen false = refl

without_seen : (c : Bool) → 0 ≡ cond {A = ℕ} (c && false) 1 0
without_seen true = refl
without_seen false = refl

pub plus_none : (n : ℕ) → n ≡ 0 + n
plus_none n = omega arith

pub one_released : (task cell : ℕ) (b : Bool) (rest : List ℕ) → count_by (λ t. t == task) (cons_option (cond b (Some cell) None) rest) ≡ cond ((cell == task) && b) 1 0 + count_by (λ t. t == task) rest
one_released task cell true rest = sum_by-cons (λ (t : ℕ). cond {A = ℕ} (t == task) 1 0) cell rest ∙ ap (λ (n : ℕ). n + count_by (λ t. t == task) rest) (with_seen (cell == task))
one_released task cell false rest = plus_none (count_by (λ t. t == task) rest) ∙ ap (λ (n : ℕ). n + count_by (λ t. t == task) rest) (without_seen (cell == task))

one_freed : (task cell seen : ℕ) (kind : StepKind) (rest : List ℕ) → count_by (λ t. t == task) (cons_option (freed_of kind cell seen) rest) ≡ cond (releases kind && ((cell == task) && (seen == 1))) 1 0 + count_by (λ t. t == task) rest
one_freed task cell seen Lock rest = plus_none (count_by (λ t. t == task) rest)
one_freed task cell seen Raise rest = plus_none (count_by (λ t. t == task) rest)
one_freed task cell seen Lower rest = plus_none (count_by (λ t. t == task) rest)
one_freed task cell seen Unlock rest = plus_none (count_by (λ t. t == task) rest)
one_freed task cell seen Fetch rest = plus_none (count_by (λ t. t == task) rest)
one_freed task cell seen Return rest = plus_none (count_by (λ t. t == task) rest)
one_freed task cell seen Claim rest = plus_none (count_by (λ t. t == task) rest)
one_freed task cell seen Release rest = one_released task cell (seen == 1) rest

pub freed_count : (task : ℕ) (notes : List Note) → count_by (λ t. t == task) (freed_in notes) ≡ count_by (frees_task task) notes
freed_count task [] = refl
freed_count task (n ∷ ns) =
    let a = one_freed task n.cell n.seen n.kind (freed_in ns) in
    let b = freed_count task ns in
    let c = sum_by-cons (λ (x : Note). cond {A = ℕ} (frees_task task x) 1 0) n ns in
    a ∙ ap (λ (m : ℕ). cond {A = ℕ} (frees_task task n) 1 0 + m) b ∙ sym c

-- it is among the cells of the notes
no_release : (b : Bool) → cond {A = ℕ} (b && false) 1 0 ≡ 0
no_release true = refl
no_release false = refl

pub freed_among : (notes : List Note) (task : ℕ) → Contains (freed_in notes) task → Contains (map (λ (note : Note). note.cell) notes) task
freed_among notes task c =
    let some = count-pos (freed_in notes) task c in
    let same = freed_count task notes in
    let w = some_share (λ (x : Note). cond {A = ℕ} (frees_task task x) 1 0) notes (omega arith) in
    let x : Note = w.0 in
    elim (cases_eq x.cell task) [
      | inl e ↦ subst (Contains (map (λ (note : Note). note.cell) notes)) e (Contains-map (λ (note : Note). note.cell) notes x w.1)
      | inr n ↦
          let none : cond {A = ℕ} (frees_task task x) 1 0 ≡ 0 = ap (λ (b : Bool). cond {A = ℕ} (releases x.kind && (b && (x.seen == 1))) 1 0) (ne_eqb x.cell task n) ∙ no_release (releases x.kind) in
          let more = w.2 in
          absurd (omega arith)
    ]

-- an edge counts
pub edge_counts : (shape : Shape) (before after : ℕ) → before < length shape.tasks → IsEdge shape before after → 0 < edges_into shape after
edge_counts shape before after l edge =
    let one = count-pos (task_at shape before).successors after edge in
    let stands : Contains shape.tasks (task_at shape before) = subst (Contains shape.tasks) (sym (task_at-get_or shape before)) (Contains-get_or shape.tasks before no_task l) in
    let all = share-le (λ (t : TaskShape). count_by (λ a. a == after) t.successors) shape.tasks (task_at shape before) stands in
    omega (arith, one, all)

-- what waits for no other does so still when more notes come
pub waits_still : (shape : Shape) (old further : List Note) (task : ℕ) → WaitsForNone shape old task → WaitsForNone shape (old ++ further) task
waits_still shape old further task (inl none) = inl none
waits_still shape old further task (inr some) = let both = sum_by-append (λ (x : Note). cond {A = ℕ} (frees_task task x) 1 0) old further in inr (omega arith)

-- the list of a worker that was made, and with a first task more
pub none_ready : (shape : Shape) (notes : List Note) → IsReadyList shape notes []
none_ready shape notes = record { are_tasks = All-nil (λ (t : ℕ). t < length shape.tasks); differ = λ t. omega arith; free = All-nil (WaitsForNone shape notes) }

pub one_ready : (shape : Shape) (notes : List Note) (ready : List ℕ) (task : ℕ) → IsReadyList shape notes ready → IsFirstTask shape task → (Contains ready task → ⊥) → IsReadyList shape notes (ready ++ task ∷ [])
one_ready shape notes ready task r first new = record {
  are_tasks = All-push (λ (t : ℕ). t < length shape.tasks) ready task r.are_tasks first.is_task;
  differ = λ t.
      let more = sum_by_push (λ (k : ℕ). one_if k t) ready task in
      elim (cases_eq task t) [
        | inl e ↦
            let none = subst (λ (k : ℕ). count_by (λ x. x == k) ready ≡ 0) e (count-zero ready task new) in
            let one = one_if-same task t e in
            omega arith
        | inr n ↦
            let few = r.differ t in
            let none = one_if-other task t n in
            omega arith
      ];
  free = All-push (WaitsForNone shape notes) ready task r.free (inl first.no_edge);
}

-- the front of a list
front_of : {X : Type 0} (P : X → Type 0) (xs ys : List X) → All P (xs ++ ys) → All P xs
front_of P [] ys all = All-nil P
front_of P (x ∷ xs) ys all = All-cons P x xs (All-head P x (xs ++ ys) all) (front_of P xs ys (All-tail P x (xs ++ ys) all))

pub kept_ready : (shape : Shape) (notes : List Note) (before kept gone : List ℕ) → before ≡ kept ++ gone → IsReadyList shape notes before → IsReadyList shape notes kept
kept_ready shape notes before kept gone is r = record {
  are_tasks = front_of (λ (t : ℕ). t < length shape.tasks) kept gone (subst (All (λ (t : ℕ). t < length shape.tasks)) is r.are_tasks);
  differ = λ t.
      let all = subst (λ (ts : List ℕ). count_by (λ k. k == t) ts ≤ 1) is (r.differ t) in
      let both = sum_by-append (λ (k : ℕ). one_if k t) kept gone in
      omega arith;
  free = front_of (WaitsForNone shape notes) kept gone (subst (All (WaitsForNone shape notes)) is r.free);
}

-- more notes come
pub ready_still : (shape : Shape) (old further new : List Note) (ready : List ℕ) → new ≡ old ++ further → IsReadyList shape old ready → IsReadyList shape new ready
ready_still shape old further new ready is r = subst (λ (ns : List Note). IsReadyList shape ns ready) (sym is) (record {
  are_tasks = r.are_tasks;
  differ = r.differ;
  free = All-weaker (WaitsForNone shape old) (WaitsForNone shape (old ++ further)) (λ t w. waits_still shape old further t w) ready r.free;
})

-- a task was done, and those that its releases took to 0 come behind the list
module _ (shape : Shape) (laws : IsShape shape) (task : ℕ) (within : task < length shape.tasks) (old further : List Note) (kept : List ℕ) (over : AreReleasesOf further (task_at shape task).successors)
    (once : (t : ℕ) → count_by (frees_task t) (old ++ further) ≤ 1) (list : IsReadyList shape old kept) where
  edge : (t : ℕ) → Contains (freed_in further) t → IsEdge shape task t
  edge t c = subst (λ (ss : List ℕ). Contains ss t) over.1 (freed_among further t c)

  released : (t : ℕ) → Contains (freed_in further) t → 0 < count_by (frees_task t) further
  released t c = let a = count-pos (freed_in further) t c in let b = freed_count t further in omega arith

  more_differ : (t : ℕ) → count_by (λ k. k == t) (kept ++ freed_in further) ≤ 1
  more_differ t =
      let both = sum_by-append (λ (k : ℕ). one_if k t) kept (freed_in further) in
      let same = freed_count t further in
      let notes = sum_by-append (λ (x : Note). cond {A = ℕ} (frees_task t x) 1 0) old further in
      let one = once t in
      let few = list.differ t in
      elim (cases_lt 0 (count_by (λ k. k == t) kept)) [
        | inr none ↦ omega arith
        | inl some ↦ elim (cases_lt 0 (count_by (λ k. k == t) (freed_in further))) [
          | inr none ↦ omega arith
          | inl new ↦
              elim (All-contains (WaitsForNone shape old) kept t list.free (Contains-from_count kept t some)) [
                | inl first ↦ let counts = edge_counts shape task t within (edge t (Contains-from_count (freed_in further) t new)) in absurd (omega arith)
                | inr before ↦ absurd (omega arith)
              ]
        ]
      ]

  pub more_ready : IsReadyList shape (old ++ further) (kept ++ freed_in further)
  more_ready = record {
    are_tasks = All-append (λ (t : ℕ). t < length shape.tasks) kept (freed_in further) list.are_tasks
        (All-from_Contains (λ (t : ℕ). t < length shape.tasks) (freed_in further) (λ t c. ((laws.tasks task within).later t (edge t c)).1));
    differ = more_differ;
    free = All-append (WaitsForNone shape (old ++ further)) kept (freed_in further)
        (All-weaker (WaitsForNone shape old) (WaitsForNone shape (old ++ further)) (λ t w. waits_still shape old further t w) kept list.free)
        (All-from_Contains (WaitsForNone shape (old ++ further)) (freed_in further) (λ t c.
        let some = released t c in
        let both = sum_by-append (λ (x : Note). cond {A = ℕ} (frees_task t x) 1 0) old further in
        inr (omega arith)));
  }

-- the same by what is known of a task that was done
pub done_ready : (shape : Shape) (task : ℕ) (old middle new further : List Note) (kept ready : List ℕ) → IsShape shape → task < length shape.tasks → (rest : List Note) → middle ≡ old ++ rest → new ≡ middle ++ further
    → AreReleasesOf further (task_at shape task).successors → ready ≡ kept ++ freed_in further → (ready ≡ kept) ⊎ ((t : ℕ) → count_by (frees_task t) new ≤ 1) → IsReadyList shape old kept → IsReadyList shape new ready
done_ready shape task old middle new further kept ready laws within rest quiet is over freed (inl same) list =
    subst (IsReadyList shape new) (sym same) (ready_still shape middle further new kept is (ready_still shape old rest middle kept quiet list))
done_ready shape task old middle new further kept ready laws within rest quiet is over freed (inr once) list =
    subst (λ (p : List Note × List ℕ). IsReadyList shape p.0 p.1) (λ i. (sym is i, sym freed i))
    (more_ready shape laws task within middle further kept over (subst (λ (ns : List Note). (t : ℕ) → count_by (frees_task t) ns ≤ 1) is once) (ready_still shape old rest middle kept quiet list))
