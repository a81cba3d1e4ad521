-- The lists of the numbers of what is related to each of some elements.
use Rattle.std.proofs.Common.{◌≡◌, ℕ, ◌+◌, ◌<◌, Bool, List, [], ◌∷◌, ◌++◌, map, filter, length, get_or, replicate, sym, ap, ◌∙◌, subst, None, arith}
use Rattle.std.specs.Prelude.{◌↔◌}
use Rattle.std.specs.List.{Contains, range_with_len}
use Rattle.std.specs.List.Sorted.{IsStrictlyIncreasing}
use Rattle.std.proofs.lemmas.List.{get_or-map, length-map}
use Rattle.std.proofs.lemmas.List.Elements.{Contains-get_or}
use Rattle.std.proofs.lemmas.Simd.{map-map}
use Rattle.std.proofs.lemmas.Option.{get_or_from_slice_get, slice_get-get_or, slice_get_within}
use Rattle.lists.proofs.Rising.{IsStrictlyIncreasing-from_Rises, Rises-filter_numbers, Rises-map_add}
use Rattle.lists.proofs.Ranges.{below_from_numbers, Contains-numbers}
use Rattle.lists.proofs.Elements.{Contains-filter, Contains-from_filter, passes_from_filter}
use Rattle.cell_tree.specs.declared.tree.Span.{Span}
use Rattle.cell_tree.specs.Tree.{Made}
use Rattle.task_graph.specs.inner.Joined.{counted_from, dues_below, joined_to}
use Rattle.task_graph.specs.inner.Parts.{AreEdgeLists, AreJoined, AreLeavesFor, AreLeavesOf, IsJoinedAt, KnownLeaves, has_above, spans_above}
use Rattle.task_graph.specs.Tasks.{drifting_leaves, due_cells, is_below_span}
use Rattle.task_graph.proofs.LeafNumbers.{length-leaves_of}

module _ {A B : Type 0} (relates : A → B → Bool) (others : List B) (none : B) (first : ℕ) where
  -- the numbers that pass for an element
  abbrev passing : A → List ℕ
  passing a = filter (λ k. relates a (get_or others k none)) (range_with_len 0 (length others))

  joined_rises : (a : A) → IsStrictlyIncreasing (joined_to relates others none first a)
  joined_rises a =
      IsStrictlyIncreasing-from_Rises (joined_to relates others none first a)
      (Rises-map_add first (passing a) (Rises-filter_numbers (λ k. relates a (get_or others k none)) (length others)))

  -- a number in the list is that of a related element
  joined_from : (a : A) (number : ℕ) → Contains (joined_to relates others none first a) number → IsJoinedAt relates a others first number
  joined_from a number c =
      let p = λ (k : ℕ). relates a (get_or others k none) in
      let all = range_with_len 0 (length others) in
      let place = c.0 in
      let low : place < length (passing a) = let l = c.1 in omega (arith, length-map (passing a) (λ k. first + k)) in
      let index = get_or (passing a) place 0 in
      let is : get_or (joined_to relates others none first a) place number ≡ first + index = get_or-map (λ k. first + k) (passing a) place 0 number low in
      let held : Contains (passing a) index = Contains-get_or (passing a) place 0 low in
      let within : index < length others = below_from_numbers (length others) index (Contains-from_filter p all index held) in
      record {
        index = index;
        b = get_or others index none;
        at = sym c.2 ∙ is;
        stands = slice_get-get_or others index none within;
        related = passes_from_filter p all index held;
      }

  -- and each related element's number is in it
  joined_has : (a : A) (number : ℕ) → IsJoinedAt relates a others first number → Contains (joined_to relates others none first a) number
  joined_has a number j =
      let p = λ (k : ℕ). relates a (get_or others k none) in
      let all = range_with_len 0 (length others) in
      let here : get_or others j.index none ≡ j.b = get_or_from_slice_get others j.index j.b none j.stands in
      let within : j.index < length others = slice_get_within others j.index j.b j.stands in
      let held : Contains (passing a) j.index = Contains-filter p all j.index (ap (relates a) here ∙ j.related) (Contains-numbers (length others) j.index within) in
      let l : held.0 < length (joined_to relates others none first a) = let m = held.1 in omega (arith, length-map (passing a) (λ k. first + k)) in
      (held.0, l, get_or-map (λ k. first + k) (passing a) held.0 j.index number held.1 ∙ ap (λ k. first + k) held.2 ∙ sym j.at)

  -- the lists of all elements
  pub AreJoined-map : (each : List A) → AreJoined relates each others first (map (joined_to relates others none first) each)
  AreJoined-map each =
      let f = joined_to relates others none first in
      let rises : (xs : List A) (k : ℕ) → k < length xs → IsStrictlyIncreasing (get_or (map f xs) k []) = rising_lists in
      record {
        one_each = length-map each f;
        rising = rises each;
        just = λ k number a stands.
            let is : get_or (map f each) k [] ≡ f a = get_or-map f each k a [] (slice_get_within each k a stands) ∙ ap f (get_or_from_slice_get each k a a stands) in
            subst (λ numbers. Contains numbers number ↔ IsJoinedAt relates a others first number) (sym is) (joined_from a number, joined_has a number);
      }
    where
      rising_lists : (xs : List A) (k : ℕ) → k < length xs → IsStrictlyIncreasing (get_or (map (joined_to relates others none first) xs) k [])
      rising_lists [] k l = absurd (omega arith)
      rising_lists (x ∷ xs) k l =
          subst IsStrictlyIncreasing (sym (get_or-map (joined_to relates others none first) (x ∷ xs) k x [] l)) (joined_rises (get_or (x ∷ xs) k x))

-- the lists of spans at some leaves, counted from a number on, join the leaves to the spans
leaves_are_joined : (made : Made) (spans : List Span) (first : ℕ) (cells : List ℕ) (lists : List (List ℕ)) → lists ≡ map (spans_above made spans) cells → AreJoined (has_above made) cells spans first (map (counted_from first) lists)
leaves_are_joined made spans first cells lists are =
    let no_span : Span = record { first = 0; second = None } in
    let is : map (counted_from first) lists ≡ map (joined_to (has_above made) spans no_span first) cells = ap (map (counted_from first)) are ∙ map-map (counted_from first) (spans_above made spans) cells in
    subst (AreJoined (has_above made) cells spans first) (sym is) (AreJoined-map (has_above made) spans no_span first cells)

-- one list for each leaf
pub one_list_each : (made : Made) (spans : List Span) (cells numbers : List ℕ) (lists : List (List ℕ)) → AreLeavesOf made cells numbers → lists ≡ map (spans_above made spans) cells → length lists ≡ length numbers
one_list_each made spans cells numbers lists of are = ap length are ∙ length-map cells (spans_above made spans) ∙ sym (length-leaves_of made cells numbers of)

-- the lists of a graph
pub are_edge_lists : (made : Made) (spans : List Span) (due : List Bool) (drift : Bool) (leaves : KnownLeaves) (densities ghosts forces kicks last : ℕ) → AreLeavesFor made spans due drift leaves
    → densities ≡ length leaves.drifting → ghosts ≡ length leaves.drifting + length spans → forces ≡ length leaves.drifting + length spans + length leaves.dues
    → kicks ≡ length leaves.drifting + length spans + length leaves.dues + length spans → last ≡ length leaves.dues
    → AreEdgeLists made spans due drift
    (map (counted_from densities) leaves.above_drifting ++ map (dues_below made due ghosts) spans ++ map (counted_from forces) leaves.above_dues ++ map (dues_below made due kicks) spans ++ replicate last [])
are_edge_lists made spans due drift leaves densities ghosts forces kicks last are d g f k e =
    let drifts = map (counted_from densities) leaves.above_drifting in
    let long : length drifts ≡ length leaves.drifting =
    length-map leaves.above_drifting (counted_from densities) ∙ one_list_each made spans _ _ _ are.drifting_are are.above_drifting_are in
    let count = length-leaves_of made (due_cells made due) leaves.dues are.dues_are in
    record {
      drifts = drifts;
      densities = map (dues_below made due ghosts) spans;
      ghosts = map (counted_from forces) leaves.above_dues;
      forces = map (dues_below made due kicks) spans;
      all = ap (λ n. drifts ++ map (dues_below made due ghosts) spans ++ map (counted_from forces) leaves.above_dues ++ map (dues_below made due kicks) spans ++ replicate n []) (e ∙ count);
      drifts_are = subst (λ n. AreJoined (has_above made) (drifting_leaves made spans drift) spans n drifts) (d ∙ sym long)
          (leaves_are_joined made spans densities (drifting_leaves made spans drift) leaves.above_drifting are.above_drifting_are);
      densities_are = subst (λ n. AreJoined (is_below_span made) spans (due_cells made due) n (map (dues_below made due ghosts) spans)) (omega arith)
          (AreJoined-map (is_below_span made) (due_cells made due) 0 ghosts spans);
      ghosts_are = subst (λ n. AreJoined (has_above made) (due_cells made due) spans n (map (counted_from forces) leaves.above_dues)) (omega arith)
          (leaves_are_joined made spans forces (due_cells made due) leaves.above_dues are.above_dues_are);
      forces_are = subst (λ n. AreJoined (is_below_span made) spans (due_cells made due) n (map (dues_below made due kicks) spans)) (omega arith)
          (AreJoined-map (is_below_span made) (due_cells made due) 0 kicks spans);
    }
