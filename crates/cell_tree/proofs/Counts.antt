-- How many members the octants of a cell have, and how many cells a subtree has.
use Rattle.std.proofs.Common.{◌≡◌, ℕ, zero, suc, ◌+◌, ◌*◌, ◌<◌, ◌≤◌, eqb, List, [], ◌∷◌, length, get_or, filter, refl, sym, ap, ◌∙◌, inl, inr, length-append, arith}
use Rattle.std.specs.List.{flat_map, range_with_len}
use Rattle.std.proofs.lemmas.Bool.{cases_Bool, cases_eq, eqb-false, eq-eqb, ne_eqb}
use Rattle.std.proofs.lemmas.Nat.{mul-le}
use Rattle.std.proofs.Math.Nat.{mul-add, mul_comm}
use Rattle.cell_geom.specs.Cube.{octant_of, deepest_level}
use Rattle.cell_tree.specs.Tree.{Made, Cell, child_cell}
use Rattle.cell_tree.specs.inner.Under.{cells_under, cells_in, cells_of_octants}
use Rattle.cell_geom.proofs.Nesting.{octant-below}
use Rattle.cell_tree.proofs.Under.{IsSplit-from_test, cells_under_induction}

-- the numbers that f gives n values from the first on, one value after another
abbrev pub sorted_by : (ℕ → ℕ) → List ℕ → ℕ → ℕ → List ℕ
sorted_by f xs first n = flat_map (λ v. filter (λ x. eqb (f x) v) xs) (range_with_len first n)

-- of no numbers there are none
sorted_by-nil : (f : ℕ → ℕ) (first n : ℕ) → length (sorted_by f [] first n) ≡ 0
sorted_by-nil f first zero = refl
sorted_by-nil f first (suc n) = sorted_by-nil f (first + 1) n

-- a number adds one where f gives it one of the values
sorted_by-other : (f : ℕ → ℕ) (x : ℕ) (xs : List ℕ) (first n : ℕ) → f x < first → length (sorted_by f (x ∷ xs) first n) ≡ length (sorted_by f xs first n)
sorted_by-other f x xs first zero h = refl
sorted_by-other f x xs first (suc n) h =
    let e = ne_eqb (f x) first (λ e. omega arith) in
    let ih = sorted_by-other f x xs (first + 1) n (omega arith) in
    rw e (length-append (filter (λ y. eqb (f y) first) xs) (sorted_by f (x ∷ xs) (first + 1) n)
    ∙ ap (λ k. length (filter (λ y. eqb (f y) first) xs) + k) ih ∙ sym (length-append (filter (λ y. eqb (f y) first) xs) (sorted_by f xs (first + 1) n)))

-- a number that f gives one of the values adds one
sorted_by-cons : (f : ℕ → ℕ) (x : ℕ) (xs : List ℕ) (first n : ℕ) → first ≤ f x → f x < first + n → length (sorted_by f (x ∷ xs) first n) ≡ suc (length (sorted_by f xs first n))
sorted_by-cons f x xs first zero low high = absurd (omega arith)
sorted_by-cons f x xs first (suc n) low high =
    elim (cases_eq (f x) first) [
      | inl e ↦ let t = eq-eqb (f x) first e in
          let o = sorted_by-other f x xs (first + 1) n (omega arith) in
          let a = length-append (filter (λ y. eqb (f y) first) xs) (sorted_by f (x ∷ xs) (first + 1) n) in
          let b = length-append (filter (λ y. eqb (f y) first) xs) (sorted_by f xs (first + 1) n) in
          rw t (ap suc (a ∙ ap (λ k. length (filter (λ y. eqb (f y) first) xs) + k) o ∙ sym b))
      | inr ne ↦ let t = ne_eqb (f x) first ne in
          let ih = sorted_by-cons f x xs (first + 1) n (omega arith) (omega arith) in
          let a = length-append (filter (λ y. eqb (f y) first) xs) (sorted_by f (x ∷ xs) (first + 1) n) in
          let b = length-append (filter (λ y. eqb (f y) first) xs) (sorted_by f xs (first + 1) n) in
          rw t (omega arith)
    ]

-- where f gives each number one of n values, all of them are there
pub length-sorted_by : (f : ℕ → ℕ) (n : ℕ) (small : (x : ℕ) → f x < n) (xs : List ℕ) → length (sorted_by f xs 0 n) ≡ length xs
length-sorted_by f n small [] = sorted_by-nil f 0 n
length-sorted_by f n small (x ∷ xs) = sorted_by-cons f x xs 0 n (omega arith) (omega (arith, small x)) ∙ ap suc (length-sorted_by f n small xs)

-- the octant of a point in a cell
abbrev pub octant_in : Made → Cell → ℕ → ℕ
octant_in made cell i = octant_of cell.cube.level (get_or made.points i [])

-- a bound on the cells of an octant, which has none where it has no member
cells_in-length : (made : Made) (cell : Cell) (octant k bound : ℕ) → (0 < length (child_cell made.points cell octant).members → length (cells_under made (child_cell made.points cell octant)) + k ≤ bound)
    → k ≤ bound → length (cells_in made cell octant) + k ≤ bound
cells_in-length made cell octant k bound h z =
    elim (cases_Bool (eqb (length (child_cell made.points cell octant).members) 0)) [
      | inl t ↦ rw t (omega arith)
      | inr f ↦ let e = eqb-false _ _ f in rw f (h (omega arith))
    ]

-- a bound on each of two parts is one on both
joined_bound : (a b k x y : ℕ) → a + k * x ≤ 11 * x → b + k * y ≤ 11 * y → a + b + k * (x + y) ≤ 11 * (x + y)
joined_bound a b k x y p q = omega (arith, mul-add k x y)

-- a bound on the cells of some octants, in their members
octants-length : (made : Made) (cell : Cell) (first n : ℕ)
    → ((octant : ℕ) → 0 < length (child_cell made.points cell octant).members
    → length (cells_under made (child_cell made.points cell octant)) + (cell.cube.level + 1) * length (child_cell made.points cell octant).members ≤ 11 * length (child_cell made.points cell octant).members)
    → cell.cube.level < deepest_level
    → length (cells_of_octants made cell first n) + (cell.cube.level + 1) * length (sorted_by (octant_in made cell) cell.members first n) ≤ 11 * length (sorted_by (octant_in made cell) cell.members first n)
octants-length made cell first zero h l = omega arith
octants-length made cell first (suc n) h l =
    let m = length (child_cell made.points cell first).members in
    let here = cells_in-length made cell first ((cell.cube.level + 1) * m) (11 * m) (h first) (mul-le (cell.cube.level + 1) m 11 m (omega arith) (omega arith)) in
    rw (
      length-append (cells_in made cell first) (cells_of_octants made cell (first + 1) n),
      length-append (child_cell made.points cell first).members (sorted_by (octant_in made cell) cell.members (first + 1) n),
    )
    (joined_bound _ _ (cell.cube.level + 1) m _ here (octants-length made cell (first + 1) n h l))

-- the cell itself is one more, which a member pays for
split_bound : (f level m : ℕ) → f + (level + 1) * m ≤ 11 * m → 0 < m → suc f + level * m ≤ 11 * m
split_bound f level m h some = let e : (level + 1) * m ≡ level * m + m = mul_comm (level + 1) m ∙ mul-add m level 1 ∙ ap (λ x. x + m * 1) (mul_comm m level) ∙ omega arith in omega arith

-- a subtree has at most eleven cells for each member: a level's cells share none
pub cells_under-bound : (made : Made) (cell : Cell) → cell.cube.level ≤ deepest_level → 0 < length cell.members
    → length (cells_under made cell) + cell.cube.level * length cell.members ≤ 11 * length cell.members
cells_under-bound made =
    cells_under_induction made (λ cell cells. cell.cube.level ≤ deepest_level → 0 < length cell.members → length cells + cell.cube.level * length cell.members ≤ 11 * length cell.members)
    (λ cell t l some. let p = mul-le cell.cube.level (length cell.members) 10 (length cell.members) l (omega arith) in omega arith)
    (λ cell f ih l some.
    let s = (IsSplit-from_test made cell f).level in
    let o = octants-length made cell 0 8 (λ octant some'. ih octant (omega arith) some') s in
    let e = length-sorted_by (octant_in made cell) 8 (λ i. octant-below cell.cube.level (get_or made.points i [])) cell.members in
    split_bound (length (cells_of_octants made cell 0 8)) cell.cube.level (length cell.members) (rw e at o) some)
