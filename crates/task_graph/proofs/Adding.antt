-- Lists that are added one after another to starts and ends.
use Rattle.std.proofs.Common.{◌≡◌, ℕ, ◌+◌, ◌<◌, ◌≤◌, ◌^◌, List, [], ◌∷◌, ◌++◌, map, length, get_or, take, replicate, sym, ap, ◌∙◌, subst, append_assoc, arith, length-append}
use Rattle.std.proofs.lemmas.List.{append-nil, length-map, length-replicate, length-take-le, map_more, replicate_more}
use Rattle.task_weight.specs.Edges.{AreStarts, edges_of}
use Rattle.task_weight.proofs.Starts.{AreStarts-add, edges_of-add, length-edges_of}
use Rattle.task_graph.specs.inner.Parts.{AddsLists}

-- one more list, whose numbers stand last
pub AddsLists-one : (starts ends starts' ends' starts'' ends'' numbers : List ℕ) (lists : List (List ℕ)) → AddsLists starts ends starts' ends' lists → length starts' < 2 ^ 32
    → ends'' ≡ ends' ++ numbers → starts'' ≡ starts' ++ length ends'' ∷ [] → AddsLists starts ends starts'' ends'' (lists ++ numbers ∷ [])
AddsLists-one starts ends starts' ends' starts'' ends'' numbers lists adds few e s =
    rw (s, e) (record {
      are_starts = AreStarts-add starts' ends' numbers adds.are_starts few;
      added = edges_of-add starts' ends' numbers adds.are_starts ∙ ap (λ ls. ls ++ numbers ∷ []) adds.added ∙ append_assoc (edges_of starts ends) lists (numbers ∷ []);
    })

-- one start more for each list
pub length-AddsLists : (starts ends starts' ends' : List ℕ) (lists : List (List ℕ)) → AreStarts starts ends → AddsLists starts ends starts' ends' lists → length starts' ≡ length starts + length lists
length-AddsLists starts ends starts' ends' lists are adds =
    let before = length-edges_of starts ends are in
    let after = length-edges_of starts' ends' adds.are_starts in
    omega (arith, ap length adds.added, length-append (edges_of starts ends) lists)

-- a loop that adds the list of each of some elements
pub AddsLists-more : {X : Type 0} (f : X → List ℕ) (xs : List X) (i : ℕ) (d : X) (starts ends starts' ends' starts'' ends'' : List ℕ) → AreStarts starts ends → length starts + length xs ≤ 2 ^ 32 → i < length xs
    → AddsLists starts ends starts' ends' (map f (take i xs)) → ends'' ≡ ends' ++ f (get_or xs i d) → starts'' ≡ starts' ++ length ends'' ∷ [] → AddsLists starts ends starts'' ends'' (map f (take (i + 1) xs))
AddsLists-more f xs i d starts ends starts' ends' starts'' ends'' are few l adds e s =
    let count = length-AddsLists starts ends starts' ends' (map f (take i xs)) are adds in
    let long = length-map (take i xs) f in
    let front = length-take-le i xs (omega arith) in
    subst (AddsLists starts ends starts'' ends'') (sym (map_more f xs i d l))
    (AddsLists-one starts ends starts' ends' starts'' ends'' (f (get_or xs i d)) (map f (take i xs)) adds (omega arith) e s)

-- a loop that adds empty lists
pub AddsLists-empty : (starts ends starts' starts'' : List ℕ) (ends' ends'' : List ℕ) (i : ℕ) → AreStarts starts ends → length starts + i < 2 ^ 32
    → AddsLists starts ends starts' ends' (replicate i []) → ends'' ≡ ends' → starts'' ≡ starts' ++ length ends'' ∷ [] → AddsLists starts ends starts'' ends'' (replicate (i + 1) [])
AddsLists-empty starts ends starts' starts'' ends' ends'' i are few adds e s =
    let count = length-AddsLists starts ends starts' ends' (replicate i []) are adds in
    let long = length-replicate {A = List ℕ} i [] in
    subst (AddsLists starts ends starts'' ends'') (replicate_more i [])
    (AddsLists-one starts ends starts' ends' starts'' ends'' [] (replicate i []) adds (omega arith) (e ∙ sym (append-nil ends')) s)

-- five parts after one another from no list on
pub edges_of-parts : (starts ends starts1 ends1 starts2 ends2 starts3 ends3 starts4 ends4 starts5 ends5 : List ℕ) (lists1 lists2 lists3 lists4 lists5 : List (List ℕ)) → starts ≡ 0 ∷ [] → ends ≡ []
    → AddsLists starts ends starts1 ends1 lists1 → AddsLists starts1 ends1 starts2 ends2 lists2 → AddsLists starts2 ends2 starts3 ends3 lists3
    → AddsLists starts3 ends3 starts4 ends4 lists4 → AddsLists starts4 ends4 starts5 ends5 lists5 → edges_of starts5 ends5 ≡ lists1 ++ lists2 ++ lists3 ++ lists4 ++ lists5
edges_of-parts starts ends starts1 ends1 starts2 ends2 starts3 ends3 starts4 ends4 starts5 ends5 lists1 lists2 lists3 lists4 lists5 no_starts no_ends adds1 adds2 adds3 adds4 adds5 =
    let none : edges_of starts ends ≡ [] = ap (λ s. edges_of s ends) no_starts ∙ ap (edges_of (0 ∷ [])) no_ends in
    let first : edges_of starts1 ends1 ≡ lists1 = adds1.added ∙ ap (λ ls. ls ++ lists1) none in
    adds5.added ∙ ap (λ ls. ls ++ lists5) (adds4.added ∙ ap (λ ls. ls ++ lists4) (adds3.added ∙ ap (λ ls. ls ++ lists3) (adds2.added ∙ ap (λ ls. ls ++ lists2) first)))
