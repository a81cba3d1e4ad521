-- The starts of each task's edges: what they read, and what one more task makes of them.
use Rattle.std.proofs.Common.{◌≡◌, ℕ, zero, suc, ◌+◌, ◌-◌, ◌<◌, ◌≤◌, ◌^◌, List, [], ◌∷◌, ◌++◌, map, length, get_or, refl, sym, ap, ◌∙◌, inl, inr, arith, length-append}
use Rattle.std.specs.List.{range_with_len, slice_range}
use Rattle.std.proofs.lemmas.Bool.{cases_lt}
use Rattle.std.proofs.lemmas.List.{length_push, get_or_push, get_or_append_left, get_or_read}
use Rattle.std.proofs.lemmas.List.FromFn.{length-map-range_with_len, get_or-map-range_with_len, map-range_with_len_more}
use Rattle.lists.proofs.Places.{slice_range-append, slice_range-end}
use Rattle.lists.proofs.Ranges.{below_from_numbers}
use Rattle.task_weight.specs.Edges.{AreStarts, edges_of, ends_of}
use Rattle.task_weight.specs.Paths.{after_of}
use Rattle.task_weight.proofs.GreatestPaths.{map_agree}

-- from the last start back
below_end : (starts ends : List ℕ) → AreStarts starts ends → (left task : ℕ) → task + left + 1 ≡ length starts → get_or starts task 0 ≤ length ends
below_end starts ends are zero task e =
    let at : task ≡ length starts - 1 = omega arith in
    let same : get_or starts task 0 ≡ get_or starts (length starts - 1) 0 = ap (λ k. get_or starts k 0) at in
    omega (arith, are.last)
below_end starts ends are (suc left) task e =
    let next = below_end starts ends are left (task + 1) (omega arith) in
    let step = are.rising task (omega arith) in
    omega arith

-- no start is past the last edge
pub starts_most : (starts ends : List ℕ) → AreStarts starts ends → (task : ℕ) → task < length starts → get_or starts task 0 ≤ length ends
starts_most starts ends are task below = below_end starts ends are (length starts - 1 - task) task (omega arith)

-- a later start is no less
starts_rise : (starts ends : List ℕ) → AreStarts starts ends → (task more : ℕ) → task + more < length starts → get_or starts task 0 ≤ get_or starts (task + more) 0
starts_rise starts ends are task zero below = let same : task + 0 ≡ task = omega arith in omega (arith, ap (λ k. get_or starts k 0) same)
starts_rise starts ends are task (suc more) below =
    let early = starts_rise starts ends are task more (omega arith) in
    let step = are.rising (task + more) (omega arith) in
    let next : task + more + 1 ≡ task + suc more = omega arith in
    omega (arith, ap (λ k. get_or starts k 0) next)

-- two starts that are read in order bound a part of the ends
pub reads_in_order : (starts ends : List ℕ) → AreStarts starts ends → (task later start end : ℕ) → task ≤ later → later < length starts → start ≡ get_or starts task start → end ≡ get_or starts later end →
    (start ≤ end) × (end ≤ length ends)
reads_in_order starts ends are task later start end order below from to =
    let at : task + (later - task) ≡ later = omega arith in
    let rise = starts_rise starts ends are task (later - task) (omega arith) in (
      omega (arith, ap (λ k. get_or starts k 0) at, get_or_read starts task start (omega arith) from 0, get_or_read starts later end below to 0),
      omega (arith, get_or_read starts later end below to 0, starts_most starts ends are later below),
    )

-- the start behind one more task
pub AreStarts-add : (starts ends added : List ℕ) → AreStarts starts ends → length starts < 2 ^ 32 → AreStarts (starts ++ length (ends ++ added) ∷ []) (ends ++ added)
AreStarts-add starts ends added are few =
    let total = length (ends ++ added) in
    let long : length (starts ++ total ∷ []) ≡ length starts + 1 = length_push starts total in
    let count : total ≡ length ends + length added = length-append ends added in
    let some = are.some in
    let end : get_or (starts ++ total ∷ []) (length starts) 0 ≡ total = get_or_push starts total 0 (length starts) refl in
    let early : (k : ℕ) → k < length starts → get_or (starts ++ total ∷ []) k 0 ≡ get_or starts k 0 = λ k l. get_or_append_left starts (total ∷ []) 0 k l in
    record {
      some = omega arith;
      few = omega arith;
      first = early 0 (omega arith) ∙ are.first;
      rising = λ task below. elim (cases_lt (task + 1) (length starts)) [
        | inl inside ↦ omega (arith, early task (omega arith), early (task + 1) inside, are.rising task inside)
        | inr past ↦
            let at : task + 1 ≡ length starts = omega arith in
            let next : get_or (starts ++ total ∷ []) (task + 1) 0 ≡ total = ap (λ k. get_or (starts ++ total ∷ []) k 0) at ∙ end in
            omega (arith, early task (omega arith), starts_most starts ends are task (omega arith))
      ];
      last = let at : length (starts ++ total ∷ []) - 1 ≡ length starts = omega arith in ap (λ k. get_or (starts ++ total ∷ []) k 0) at ∙ end;
    }

-- the tasks before the new one keep their ends
ends_of-early : (starts ends added : List ℕ) (total : ℕ) → AreStarts starts ends → (task : ℕ) → task + 1 < length starts → ends_of (starts ++ total ∷ []) (ends ++ added) task ≡ ends_of starts ends task
ends_of-early starts ends added total are task below =
    ap (λ start. slice_range (ends ++ added) start (get_or (starts ++ total ∷ []) (task + 1) 0)) (get_or_append_left starts (total ∷ []) 0 task (omega arith))
    ∙ ap (λ end. slice_range (ends ++ added) (get_or starts task 0) end) (get_or_append_left starts (total ∷ []) 0 (task + 1) below)
    ∙ slice_range-append ends added (get_or starts task 0) (get_or starts (task + 1) 0) (are.rising task below) (starts_most starts ends are (task + 1) below)

-- the new task has the ends that were added
ends_of-last : (starts ends added : List ℕ) → AreStarts starts ends → ends_of (starts ++ length (ends ++ added) ∷ []) (ends ++ added) (length starts - 1) ≡ added
ends_of-last starts ends added are =
    let total = length (ends ++ added) in
    let some = are.some in
    let at : length starts - 1 + 1 ≡ length starts = omega arith in
    let from : get_or (starts ++ total ∷ []) (length starts - 1) 0 ≡ length ends = get_or_append_left starts (total ∷ []) 0 (length starts - 1) (omega arith) ∙ are.last in
    let to : get_or (starts ++ total ∷ []) (length starts - 1 + 1) 0 ≡ total = get_or_push starts total 0 (length starts - 1 + 1) (omega arith) in
    slice_range-end ends added _ _ from to

-- one more task, whose edges stand last
pub edges_of-add : (starts ends added : List ℕ) → AreStarts starts ends → edges_of (starts ++ length (ends ++ added) ∷ []) (ends ++ added) ≡ edges_of starts ends ++ added ∷ []
edges_of-add starts ends added are =
    let total = length (ends ++ added) in
    let more = ends_of (starts ++ total ∷ []) (ends ++ added) in
    let n = length starts - 1 in
    let some = are.some in
    let count : length (starts ++ total ∷ []) - 1 ≡ n + 1 = omega (arith, length_push starts total) in
    ap (λ k. map more (range_with_len 0 k)) count
    ∙ map-range_with_len_more more 0 n n (omega arith)
    ∙ ap (λ last. map more (range_with_len 0 n) ++ last ∷ []) (ends_of-last starts ends added are)
    ∙ ap (λ early. early ++ added ∷ []) (map_agree more (ends_of starts ends) (range_with_len 0 n) (λ k c. ends_of-early starts ends added total are k (omega (arith, below_from_numbers n k c))))

-- one start more than there are tasks
pub length-edges_of : (starts ends : List ℕ) → AreStarts starts ends → length (edges_of starts ends) + 1 ≡ length starts
length-edges_of starts ends are = let some = are.some in omega (arith, length-map-range_with_len (ends_of starts ends) 0 (length starts - 1))

pub after_of-edges_of : (starts ends : List ℕ) (task : ℕ) → task + 1 < length starts → after_of (edges_of starts ends) task ≡ ends_of starts ends task
after_of-edges_of starts ends task below = get_or-map-range_with_len (ends_of starts ends) 0 (length starts - 1) task task [] (omega arith) (omega arith)

-- what is read between two starts
pub after_of-read : (starts ends : List ℕ) (edges : List (List ℕ)) (task start end : ℕ) → AreStarts starts ends → edges_of starts ends ≡ edges → task < length edges →
    start ≡ get_or starts task 0 → end ≡ get_or starts (task + 1) 0 → slice_range ends start end ≡ after_of edges task
after_of-read starts ends edges task start end are is below from to =
    ap (λ s. slice_range ends s end) from
    ∙ ap (λ e. slice_range ends (get_or starts task 0) e) to
    ∙ sym (after_of-edges_of starts ends task (omega (arith, length-edges_of starts ends are, ap length is)))
    ∙ ap (λ edges. after_of edges task) is
