-- Points of two cells that a look drops are out of reach.
use Rattle.std.proofs.Common.{ℕ, ◌*◌, ◌<◌, ◌≤◌, max, List, [], map, length, slice_index, slice_index_or, subst, arith}
use Rattle.std.specs.List.{Contains}
use Rattle.std.proofs.lemmas.List.Elements.{All-contains}
use Rattle.std.proofs.lemmas.Nat.{mul-le}
use Rattle.lists.proofs.Elements.{Contains-map}
use Rattle.lists.proofs.Extremes.{All-fold_max}
use Rattle.sph_num.specs.Force.{InReach}
use Rattle.sph_num.specs.Space.{dist2}
use Rattle.cell_geom.specs.Gap.{gap2_of}
use Rattle.cell_tree.specs.Tree.{Made, cells_of, cell_at, reach_of}
use Rattle.cell_tree.specs.Laws.{CanBeMade}
use Rattle.cell_tree.proofs.Members.{sound_at}
use Rattle.pair_cover.specs.Covering.{AreMoved, AreInReach}
use Rattle.pair_cover.specs.Looks.{reach_of_two}
use Rattle.cell_geom.proofs.Gaps.{KeepsGap-gap2_of}
use Rattle.sph_num.proofs.Turned.{dist2-comm}

-- what is no nearer than the square of a greater reach is out of reach
out_of_reach : (h h' r g d : ℕ) → h ≤ r → h' ≤ r → r * r ≤ g → g ≤ d → InReach d h h' → ⊥
out_of_reach h h' r g d low low' far keeps near = let s = mul-le (max h h') (max h h') r r (omega arith) (omega arith) in omega arith

-- a member's length is within its cell's reach
length_within : (made : Made) (cell i : ℕ) → Contains (cell_at made cell).members i → slice_index made.lengths i ≤ reach_of made (cell_at made cell)
length_within made cell i c =
    let members = (cell_at made cell).members in
    let lengths = map (slice_index made.lengths) members in
    All-contains (λ l. l ≤ reach_of made (cell_at made cell)) lengths (slice_index made.lengths i) (All-fold_max 0 lengths) (Contains-map (slice_index made.lengths) members i c)

module _ (made : Made) (can : CanBeMade made) (slack : ℕ) (places : List (List ℕ)) (moved : AreMoved made slack places) (a b : ℕ)
    (in_a : a < length (cells_of made)) (in_b : b < length (cells_of made)) (far : reach_of_two made a b * reach_of_two made a b ≤ gap2_of (cell_at made a).cube (cell_at made b).cube slack) where
  -- members of two cells that keep their distance
  apart_by_gap : (i j : ℕ) → Contains (cell_at made a).members i → Contains (cell_at made b).members j
      → gap2_of (cell_at made a).cube (cell_at made b).cube slack ≤ dist2 (slice_index_or places i []) (slice_index_or places j [])
  apart_by_gap i j c d =
      let sound_a = sound_at made can a in_a in
      let sound_b = sound_at made can b in_b in
      let held_i = sound_a.held.each i c in
      let held_j = sound_b.held.each j d in
      KeepsGap-gap2_of (cell_at made a).cube (cell_at made b).cube slack (slice_index_or made.points i []) (slice_index_or made.points j [])
      (slice_index_or places i []) (slice_index_or places j []) held_i.1 held_j.1 (moved.near i held_i.0) (moved.near j held_j.0)

  -- one of the first cell and one of the second
  pub not_in_reach : (i j : ℕ) → Contains (cell_at made a).members i → Contains (cell_at made b).members j → AreInReach made places i j → ⊥
  not_in_reach i j c d near =
      let p = length_within made a i c in
      let q = length_within made b j d in
      out_of_reach (slice_index made.lengths i) (slice_index made.lengths j) (reach_of_two made a b) (gap2_of (cell_at made a).cube (cell_at made b).cube slack)
      (dist2 (slice_index_or places i []) (slice_index_or places j [])) (omega arith) (omega arith) far (apart_by_gap i j c d) near

  -- and the other way round
  pub not_in_reach_turned : (i j : ℕ) → Contains (cell_at made a).members j → Contains (cell_at made b).members i → AreInReach made places i j → ⊥
  not_in_reach_turned i j c d near =
      let p = length_within made a j c in
      let q = length_within made b i d in
      let place_j = (moved.near j ((sound_at made can a in_a).held.each j c).0).now in
      let place_i = (moved.near i ((sound_at made can b in_b).held.each i d).0).now in
      out_of_reach (slice_index made.lengths i) (slice_index made.lengths j) (reach_of_two made a b) (gap2_of (cell_at made a).cube (cell_at made b).cube slack)
      (dist2 (slice_index_or places i []) (slice_index_or places j [])) (omega arith) (omega arith) far
      (subst (λ r. gap2_of (cell_at made a).cube (cell_at made b).cube slack ≤ r) (dist2-comm (slice_index_or places j []) (slice_index_or places i []) place_j place_i) (apart_by_gap j i c d)) near
