-- The members of a cell in one octant after another.
use Rattle.std.proofs.Common.{◌≡◌, ℕ, ◌+◌, ◌<◌, cond, eqb, List, ◌∷◌, ◌++◌, length, get_or, take, set, inl, inr, sym, ap, ◌∙◌, append_assoc, arith, []}
use Rattle.std.specs.List.{range_with_len}
use Rattle.std.proofs.lemmas.Bool.{eq-eqb, ne_eqb, cases_eq}
use Rattle.std.proofs.lemmas.List.{append-nil, get_or-set_same, get_or-set_other}
use Rattle.std.proofs.lemmas.List.Elements.{filter_more}
use Rattle.lists.proofs.Ranges.{range_push, flat_map_range_more}
use Rattle.cell_geom.specs.Cube.{octant_of}
use Rattle.cell_tree.specs.inner.Nodes.{in_octant, in_octants}
use Rattle.cell_tree.proofs.Counts.{length-sorted_by}
use Rattle.cell_geom.proofs.Nesting.{octant-below}

-- one member more, which lies in the octant or not
pub in_octant_more_yes : (points : List (List ℕ)) (level : ℕ) (members : List ℕ) (octant i : ℕ) → i < length members → octant_of level (get_or points (get_or members i 0) []) ≡ octant
    → in_octant points level (take (i + 1) members) octant ≡ in_octant points level (take i members) octant ++ get_or members i 0 ∷ []
in_octant_more_yes points level members octant i l e =
    let t = eq-eqb (octant_of level (get_or points (get_or members i 0) [])) octant e in
    filter_more (λ k. eqb (octant_of level (get_or points k [])) octant) members i 0 l ∙ ap (λ b. in_octant points level (take i members) octant ++ cond b (get_or members i 0 ∷ []) []) t

-- one member more, which does not lie in the octant
pub in_octant_more_no : (points : List (List ℕ)) (level : ℕ) (members : List ℕ) (octant i : ℕ) → i < length members → (octant_of level (get_or points (get_or members i 0) []) ≡ octant → ⊥)
    → in_octant points level (take (i + 1) members) octant ≡ in_octant points level (take i members) octant
in_octant_more_no points level members octant i l e =
    let t = ne_eqb (octant_of level (get_or points (get_or members i 0) [])) octant e in
    filter_more (λ k. eqb (octant_of level (get_or points k [])) octant) members i 0 l ∙ ap (λ b. in_octant points level (take i members) octant ++ cond b (get_or members i 0 ∷ []) []) t ∙ append-nil _

-- one octant more
pub in_octants_more : (points : List (List ℕ)) (level : ℕ) (members : List ℕ) (n : ℕ) → in_octants points level members 0 (n + 1) ≡ in_octants points level members 0 n ++ in_octant points level members n
in_octants_more points level members n = flat_map_range_more (in_octant points level members) 0 n ∙ ap (λ k. in_octants points level members 0 n ++ in_octant points level members k) (omega arith)

-- each member lies in one octant
pub length-in_octants : (points : List (List ℕ)) (level : ℕ) (members : List ℕ) → length (in_octants points level members 0 8) ≡ length members
length-in_octants points level members =
    length-sorted_by (λ i. octant_of level (get_or points i [])) 8 (λ i. octant-below level (get_or points i [])) members

-- the list so far, and a member more that lies in the octant
pub append_octant_yes : (xs : List ℕ) (points : List (List ℕ)) (level : ℕ) (members : List ℕ) (octant i : ℕ) → i < length members → octant_of level (get_or points (get_or members i 0) []) ≡ octant
    → (xs ++ in_octant points level (take i members) octant) ++ get_or members i 0 ∷ [] ≡ xs ++ in_octant points level (take (i + 1) members) octant
append_octant_yes xs points level members octant i l e =
    append_assoc xs (in_octant points level (take i members) octant) (get_or members i 0 ∷ []) ∙ ap (λ ys. xs ++ ys) (sym (in_octant_more_yes points level members octant i l e))

-- where each octant ends, and one octant more
pub ends_more : (points : List (List ℕ)) (level : ℕ) (members ends : List ℕ) (n end : ℕ) → n < length ends → end ≡ length (in_octants points level members 0 (n + 1))
    → ((k : ℕ) → k < n → get_or ends k 0 ≡ length (in_octants points level members 0 (k + 1)))
    → (k : ℕ) → k < n + 1 → get_or (set ends n end) k 0 ≡ length (in_octants points level members 0 (k + 1))
ends_more points level members ends n end l e h k below =
    elim (cases_eq k n) [
      | inl same ↦ rw same (get_or-set_same ends n end 0 l ∙ e)
      | inr other ↦ get_or-set_other ends n k end 0 other ∙ h k (omega arith)
    ]

-- the numbers below one more
pub numbers_more : (n : ℕ) → range_with_len 0 (n + 1) ≡ range_with_len 0 n ++ n ∷ []
numbers_more n = range_push 0 n ∙ ap (λ k. range_with_len 0 n ++ k ∷ []) (omega arith)
