-- Points of one place make a tree.
use Rattle.std.proofs.Common.{ℕ, ◌^◌, ◌<◌, ◌≤◌, List, [], ◌∷◌, replicate, refl, subst, sym, ◌∙◌, arith}
use Rattle.std.proofs.lemmas.List.{length-replicate, get_or-replicate}
use Rattle.lists.proofs.Elements.{All-three}
use Rattle.sph_num.specs.Ranges.{IsLength, most_particles}
use Rattle.sph_num.specs.Space.{IsPlace}
use Rattle.cell_tree.specs.Laws.{CanBeMade}
use Rattle.cell_tree.specs.Tree.{made_of}

-- a corner of the box
pub IsPlace-corner : IsPlace (0 ∷ 0 ∷ 0 ∷ [])
IsPlace-corner = (refl, All-three (λ x. x < 2 ^ 20) 0 0 0 (omega arith) (omega arith) (omega arith))

-- points of one place, with one length
pub one_place : (n : ℕ) (place : List ℕ) (h leaf : ℕ) → 1 ≤ n → n ≤ most_particles → IsPlace place → IsLength h → 1 ≤ leaf → leaf ≤ 256 → CanBeMade (made_of (replicate n place) (replicate n h) leaf)
one_place n place h leaf some few p l low high = record {
  some = omega (arith, length-replicate n place);
  not_too_many = omega (arith, length-replicate n place);
  one_length_each = length-replicate n h ∙ sym (length-replicate n place);
  places = λ k m. subst IsPlace (sym (get_or-replicate n k place [] (omega (arith, length-replicate n place)))) p;
  lengths = λ k d m. subst IsLength (sym (get_or-replicate n k h d (omega (arith, length-replicate n h)))) l;
  leaf_low = low;
  leaf_high = high;
}
