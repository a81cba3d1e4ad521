-- The words of the opening state, task by task.
use Rattle.std.proofs.Common.{◌≡◌, ℕ, ◌+◌, List, [], ◌∷◌, ◌++◌, length, map, replicate, sym, ap, ap₂, ◌∙◌, arith, append_assoc}
use Rattle.std.specs.List.{range_with_len}
use Rattle.std.proofs.lemmas.List.FromFn.{map-range_with_len_more}
use Rattle.qs_core.specs.Shape.{Shape, edges_into}

-- the words of the cells, of the leaves and of the first tasks
abbrev pub words_to : Shape → ℕ → List ℕ
words_to shape n = 0 ∷ replicate (length shape.parents) 0 ++ replicate shape.leaves 0 ++ map (edges_into shape) (range_with_len 0 n)

pub words_more : (shape : Shape) (task waits : ℕ) (items new : List ℕ) → waits ≡ edges_into shape task → new ≡ items ++ waits ∷ [] → items ≡ words_to shape task → new ≡ words_to shape (task + 1)
words_more shape task waits items new w n is =
    let front : List ℕ = 0 ∷ replicate (length shape.parents) 0 ++ replicate shape.leaves 0 in
    let z : 0 + task ≡ task = omega arith in
    n ∙ ap₂ (λ a b. a ++ b ∷ []) is w ∙ append_assoc front (map (edges_into shape) (range_with_len 0 task)) (edges_into shape task ∷ [])
    ∙ ap (λ xs. front ++ xs) (sym (map-range_with_len_more (edges_into shape) 0 task task z))
