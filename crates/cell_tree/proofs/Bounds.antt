-- How large the numbers of a cell get, and that its members rise.
use Rattle.std.proofs.Common.{ℕ, ◌<◌, ◌≤◌, eqb, length, map, get_or, arith}
use Rattle.std.specs.List.{All}
use Rattle.std.specs.List.Sorted.{IsStrictlyIncreasing}
use Rattle.std.proofs.lemmas.List.{length-map}
use Rattle.std.proofs.lemmas.List.Elements.{All-map, Contains-get_or}
use Rattle.std.proofs.lemmas.List.Kept.{IsStrictlyIncreasing-filter}
use Rattle.std.proofs.lemmas.List.Sums.{length-filter, count_by-le-length}
use Rattle.std.proofs.lemmas.List.FromFn.{length-range_with_len}
use Rattle.lists.proofs.Ranges.{numbers_rise}
use Rattle.sph_num.specs.Ranges.{IsLength}
use Rattle.sph_num.proofs.Extremes.{greatest_of_within}
use Rattle.cell_tree.specs.Laws.{CanBeMade}
use Rattle.cell_tree.specs.Tree.{Made, cells_of, cell_at, reach_of}
use Rattle.cell_tree.proofs.Counts.{octant_in}
use Rattle.cell_tree.proofs.Members.{root, sound_at}
use Rattle.cell_tree.proofs.Shape.{each_below}

-- the members of a cell rise
pub members_rise : (made : Made) (cell : ℕ) → cell < length (cells_of made) → IsStrictlyIncreasing (cell_at made cell).members
members_rise made =
    each_below made (λ c. IsStrictlyIncreasing c.members) (λ c octant r s l some. IsStrictlyIncreasing-filter (λ i. eqb (octant_in made c i) octant) c.members r)
    (root made) (numbers_rise (length made.points))

-- no cell has more members than there are points
pub members_most : (made : Made) (cell : ℕ) → cell < length (cells_of made) → length (cell_at made cell).members ≤ length made.points
members_most made =
    each_below made (λ c. length c.members ≤ length made.points)
    (λ c octant m s l some. omega (arith, length-filter (λ i. eqb (octant_in made c i) octant) c.members, count_by-le-length (λ i. eqb (octant_in made c i) octant) c.members))
    (root made) (let e = length-range_with_len 0 (length made.points) in omega arith)

-- the greatest length of a cell's members is a length
pub reach_in_range : (made : Made) → CanBeMade made → (cell : ℕ) → cell < length (cells_of made) → IsLength (reach_of made (cell_at made cell))
reach_in_range made can cell l = record { low = both.0; high = both.1 }
  where
    length_at : (i : ℕ) → i < length made.points → IsLength (get_or made.lengths i 0)
    length_at i m = can.lengths i 0 (omega (arith, can.one_length_each))

    each : All (λ i. IsLength (get_or made.lengths i 0)) (cell_at made cell).members
    each k d m =
        let ms = (cell_at made cell).members in
        length_at (get_or ms k d) ((sound_at made can cell l).held.each (get_or ms k d) (Contains-get_or ms k d m)).0

    both : (1024 ≤ reach_of made (cell_at made cell)) × (reach_of made (cell_at made cell) ≤ 131072)
    both =
        greatest_of_within 1024 131072 (map (λ i. get_or made.lengths i 0) (cell_at made cell).members)
        (let s = (sound_at made can cell l).some in omega (arith, length-map (cell_at made cell).members (λ i. get_or made.lengths i 0)))
        (All-map (λ x. 1024 ≤ x) (λ i. get_or made.lengths i 0) (cell_at made cell).members (λ k d m. (each k d m).low))
        (All-map (λ x. x ≤ 131072) (λ i. get_or made.lengths i 0) (cell_at made cell).members (λ k d m. (each k d m).high))
