-- The tasks that wait for the tasks of one list, where they are those of another.
use Rattle.std.proofs.Common.{◌≡◌, ℕ, ◌+◌, Bool, true, List, [], ◌∷◌, Contains, length, map, slice_get, Some, refl, sym, ap, ◌∙◌}
use Rattle.std.proofs.lemmas.List.Kept.{AllPairs-from_increasing}
use Rattle.std.proofs.lemmas.Option.{slice_get_within, get_or_from_slice_get}
use Rattle.std.specs.List.{range_with_len}
use Rattle.lists.proofs.Places.{Contains-from_slice_get}
use Rattle.lists.proofs.Ranges.{Contains-numbers}
use Rattle.lists.proofs.Elements.{Contains-filter, Contains-head}
use Rattle.sph_num.specs.declared.kind.Kind.{Kind}
use Rattle.sph_num.specs.declared.kind.Kind.TheVariants.{Drift}
use Rattle.cell_tree.specs.Tree.{Made}
use Rattle.task_graph.specs.declared.task.Task.{Task}
use Rattle.task_graph.specs.Graph.{is_edge, successors_of, task_at}
use Rattle.sph_num.specs.Kinds.{waits_for}
use Rattle.task_graph.specs.inner.Parts.{AreJoined, IsJoinedAt}
use Rattle.task_graph.specs.Tasks.{cell_task}
use Rattle.task_graph.proofs.Forward.{edge_waits, rising_successors, successor_below, successor_edge, task_stands}
use Rattle.task_graph.proofs.Segments.{Stands}
use Rattle.task_graph.proofs.NumberedLists.{joined_are}

-- The tasks of the one list stand among some tasks, from a first number on. What may wait for them are the tasks of the other list:
-- those wait whose elements are related.
pub record IsLink (made : Made) (tasks : List Task) {A B : Type 0} (relates : A → B → Bool) (make : A → Task) (make' : B → Task) (each : List A) (others : List B) (first next : ℕ) : Type 0 where
  pub stands : (number : ℕ) (task : Task) → Stands make each first number task → slice_get tasks number ≡ Some task
  pub waiting : (number : ℕ) (a : A) (after : Task) → slice_get tasks number ≡ Some after → waits_for after.kind (make a).kind ≡ true → Stands make' others next number after
  pub placed : (number : ℕ) (after : Task) → Stands make' others next number after → slice_get tasks number ≡ Some after
  pub edge : (a : A) (b : B) → Contains each a → Contains others b → is_edge made (make a) (make' b) ≡ relates a b

module _ (made : Made) (tasks : List Task) {A B : Type 0} (relates : A → B → Bool) (make : A → Task) (make' : B → Task) (each : List A) (others : List B) (first next : ℕ) (link : IsLink made tasks relates make make' each others first next) where
  -- a task of the one list, by its index
  own_task : (k : ℕ) (a : A) → slice_get each k ≡ Some a → slice_get tasks (first + k) ≡ Some (make a)
  own_task k a s = link.stands (first + k) (make a) (record { index = k; element = a; at = refl; found = s; is = refl })

  own_task_at : (k : ℕ) (a : A) → slice_get each k ≡ Some a → task_at tasks (first + k) ≡ make a
  own_task_at k a s = get_or_from_slice_get tasks (first + k) (make a) (cell_task Drift 0) (own_task k a s)

  -- the tasks that wait for it are those of the related elements
  joined_from_successor : (k : ℕ) (a : A) → slice_get each k ≡ Some a → (number : ℕ) → Contains (successors_of made tasks (first + k)) number → IsJoinedAt relates a others next number
  joined_from_successor k a s number c =
      let after = task_at tasks number in
      let below = successor_below made tasks (first + k) number c in
      let e : is_edge made (make a) after ≡ true = ap (λ t. is_edge made t after) (sym (own_task_at k a s)) ∙ successor_edge made tasks (first + k) number c in
      let w = link.waiting number a after (task_stands made tasks number below) (edge_waits made tasks (make a) after e) in
      record {
        index = w.index;
        b = w.element;
        at = w.at;
        stands = w.found;
        related = sym (link.edge a w.element (Contains-from_slice_get each k a s) (Contains-from_slice_get others w.index w.element w.found))
            ∙ ap (is_edge made (make a)) (sym w.is) ∙ e;
      }

  successor_from_joined : (k : ℕ) (a : A) → slice_get each k ≡ Some a → (number : ℕ) → IsJoinedAt relates a others next number → Contains (successors_of made tasks (first + k)) number
  successor_from_joined k a s number j =
      let stands = link.placed number (make' j.b) (record { index = j.index; element = j.b; at = j.at; found = j.stands; is = refl }) in
      let at : task_at tasks number ≡ make' j.b = get_or_from_slice_get tasks number (make' j.b) (cell_task Drift 0) stands in
      let e : is_edge made (task_at tasks (first + k)) (task_at tasks number) ≡ true =
      ap (λ t. is_edge made t (task_at tasks number)) (own_task_at k a s) ∙ ap (is_edge made (make a)) at
      ∙ link.edge a j.b (Contains-from_slice_get each k a s) (Contains-from_slice_get others j.index j.b j.stands) ∙ j.related in
      Contains-filter (λ after. is_edge made (task_at tasks (first + k)) (task_at tasks after)) (range_with_len 0 (length tasks)) number e
      (Contains-numbers (length tasks) number (slice_get_within tasks number (make' j.b) stands))

  -- so the lists of the related elements are those of the tasks that wait
  pub linked_lists : (lists : List (List ℕ)) → AreJoined relates each others next lists → lists ≡ map (successors_of made tasks) (range_with_len first (length each))
  linked_lists lists are =
      joined_are (successors_of made tasks) relates each others first next lists are
      (λ k. AllPairs-from_increasing (successors_of made tasks k) (rising_successors made tasks k))
      (λ k a s number. (joined_from_successor k a s number, successor_from_joined k a s number))

-- nothing waits for a task whose kind no kind waits for
pub none_wait : (made : Made) (tasks : List Task) (task : ℕ) (before : Task) → slice_get tasks task ≡ Some before → ((kind : Kind) → waits_for kind before.kind ≡ true → ⊥) → successors_of made tasks task ≡ []
none_wait made tasks task before s none =
    no_elements (successors_of made tasks task) (λ number c.
    let after = task_at tasks number in
    let at : task_at tasks task ≡ before = get_or_from_slice_get tasks task before (cell_task Drift 0) s in
    let e : is_edge made before after ≡ true = ap (λ t. is_edge made t after) (sym at) ∙ successor_edge made tasks task number c in
    none after.kind (edge_waits made tasks before after e))
  where
    no_elements : (xs : List ℕ) → ((x : ℕ) → Contains xs x → ⊥) → xs ≡ []
    no_elements [] h = refl
    no_elements (x ∷ xs) h = absurd (h x (Contains-head x xs))
