-- The coordinates of a cube on an axis, from its first to its last.
use Rattle.std.proofs.Common.{◌≡◌, ℕ, ◌+◌, ◌-◌, ◌*◌, ◌/◌, ◌%◌, ◌^◌, ◌<◌, ◌≤◌, get_or, sym, ap, ◌∙◌, arith}
use Rattle.std.specs.List.{Contains}
use Rattle.std.proofs.lemmas.Nat.{pow_pos, pow-add, div-add-mod', mod_below, mul-add-lt}
use Rattle.lists.proofs.Ranges.{range-within, Contains-range}
use Rattle.sph_num.specs.Space.{box_side}
use Rattle.cell_geom.specs.declared.cube.Cube.{Cube}
use Rattle.cell_geom.specs.Cube.{deepest_level, side_of}
use Rattle.cell_geom.specs.Gap.{coordinates}
use Rattle.cell_geom.specs.inner.Ends.{AreEnds}

-- the numbers of a quotient q by s go from q times s to the next multiple
quotient_within : (q s x : ℕ) → 0 < s → x / s ≡ q → (q * s ≤ x) × (x < q * s + s)
quotient_within q s x positive is =
    let split : q * s + x % s ≡ x = ap (λ z. z * s + x % s) (sym is) ∙ div-add-mod' x s in
    (omega arith, omega (arith, mod_below x s positive))

-- a coordinate that has the cube's place is one of the cube's
pub Contains-coordinates : (cube : Cube) (axis x : ℕ) → x / side_of cube.level ≡ get_or cube.at axis 0 → Contains (coordinates cube axis) x
Contains-coordinates cube axis x is =
    let at = get_or cube.at axis 0 in
    let side = side_of cube.level in
    let within = quotient_within at side x (pow_pos (20 - cube.level)) is in
    Contains-range (at * side) side x within.0 within.1

-- the last cube of a level ends in the box
pub last-lt : (level at : ℕ) → level ≤ deepest_level → at < 2 ^ level → at * side_of level + (side_of level - 1) < box_side
last-lt level at few low =
    let side = side_of level in
    let levels : (20 - level) + level ≡ 20 = omega arith in
    let all : side * 2 ^ level ≡ 2 ^ 20 = sym (pow-add 2 (20 - level) level) ∙ ap (λ k. 2 ^ k) levels in
    omega (arith, mul-add-lt at side (side - 1) (2 ^ level) low (omega (arith, pow_pos (20 - level))))

module _ (cube : Cube) (axis first last : ℕ) (ends : AreEnds cube axis first last) where
  -- the first is not after the last
  pub ordered : first ≤ last
  ordered = let side = pow_pos (20 - cube.level) in omega (arith, ends.last_is)

  -- the coordinates are the numbers between them
  pub between_ends : (x : ℕ) → Contains (coordinates cube axis) x → (first ≤ x) × (x ≤ last)
  between_ends x c =
      let within = range-within (get_or cube.at axis 0 * side_of cube.level) (side_of cube.level) x c in
      (omega (arith, within.0, ends.first_is), omega (arith, within.1, ends.first_is, ends.last_is))

  pub Contains-between : (x : ℕ) → first ≤ x → x ≤ last → Contains (coordinates cube axis) x
  Contains-between x from to =
      Contains-range (get_or cube.at axis 0 * side_of cube.level) (side_of cube.level) x (omega (arith, ends.first_is)) (omega (arith, ends.first_is, ends.last_is))
