-- Cubes that lie in one another, and the points that they hold.
use Rattle.std.proofs.Common.{◌≡◌, ℕ, zero, suc, ◌+◌, ◌-◌, ◌*◌, ◌/◌, ◌%◌, ◌^◌, ◌<◌, ◌≤◌, true, List, slice_index, get_or, refl, sym, ap, ◌∙◌, arith}
use Rattle.std.proofs.lemmas.Bool.{and_parts, and_from, eqb-true, eq-eqb, leb-true, le-leb}
use Rattle.std.proofs.lemmas.Nat.{shr-shr, pow-add}
use Rattle.cell_geom.specs.declared.cube.Cube.{Cube}
use Rattle.cell_geom.specs.Cube.{deepest_level, IsCube, side_of, cube_holds, half_of, octant_of, child_of, cube_contains, CubeContains, is_octant_of}

-- what holds on each of three axes
pub each_axis : (P : ℕ → Type 0) → P 0 → P 1 → P 2 → (axis : ℕ) → axis < 3 → P axis
each_axis P x y z zero low = x
each_axis P x y z (suc zero) low = y
each_axis P x y z (suc (suc zero)) low = z
each_axis P x y z (suc (suc (suc n))) low = absurd (omega arith)

-- a cube within another is of no smaller level
pub level_within : (outer inner : Cube) → CubeContains outer inner → outer.level ≤ inner.level
unfolding cube_contains
level_within outer inner t = leb-true _ _ (and_parts _ _ (and_parts _ _ (and_parts _ _ t).0).0).0

-- and its place, at the other's level, is the other's
pub place_within : (outer inner : Cube) → CubeContains outer inner → (axis : ℕ) → axis < 3 → slice_index inner.at axis / 2 ^ (inner.level - outer.level) ≡ slice_index outer.at axis
unfolding cube_contains
place_within outer inner t =
    let z = and_parts _ _ t in
    let y = and_parts _ _ z.0 in
    let x = and_parts _ _ y.0 in
    each_axis (λ axis. slice_index inner.at axis / 2 ^ (inner.level - outer.level) ≡ slice_index outer.at axis) (eqb-true _ _ x.1) (eqb-true _ _ y.1) (eqb-true _ _ z.1)

-- and such a cube is within it
pub CubeContains-from_places : (outer inner : Cube) → outer.level ≤ inner.level → ((axis : ℕ) → axis < 3 → slice_index inner.at axis / 2 ^ (inner.level - outer.level) ≡ slice_index outer.at axis) → CubeContains outer inner
unfolding cube_contains
CubeContains-from_places outer inner level within =
    and_from _ _ (and_from _ _ (and_from _ _ (le-leb _ _ level) (eq-eqb _ _ (within 0 (omega arith)))) (eq-eqb _ _ (within 1 (omega arith)))) (eq-eqb _ _ (within 2 (omega arith)))

-- an octant is of the next level and within its cube
pub octant_within : (outer inner : Cube) → is_octant_of outer inner ≡ true → (inner.level ≡ suc outer.level) × CubeContains outer inner
octant_within outer inner t = let w = and_parts _ _ t in (eqb-true _ _ w.0, w.1)

pub octant_from_within : (outer inner : Cube) → inner.level ≡ suc outer.level → CubeContains outer inner → is_octant_of outer inner ≡ true
octant_from_within outer inner next within = and_from _ _ (eq-eqb _ _ next) within

-- a shift by nothing
shr_zero : (x l : ℕ) → x / 2 ^ (l - l) ≡ x
shr_zero x l = let e : l - l ≡ 0 = omega arith in rw e (omega arith)

-- two shifts are one
shr_twice : (x i j k : ℕ) → i + j ≡ k → x / 2 ^ i / 2 ^ j ≡ x / 2 ^ k
shr_twice x i j k e = rw (← e) (shr-shr x i j)

-- a cube contains itself
pub CubeContains-self : (c : Cube) → CubeContains c c
CubeContains-self c = CubeContains-from_places c c (omega arith) (λ axis h. shr_zero (slice_index c.at axis) c.level)

-- what lies in an inner cube lies in the outer one
pub CubeContains-trans : (a b c : Cube) → CubeContains a b → CubeContains b c → CubeContains a c
CubeContains-trans a b c p q =
    let low = level_within a b p in
    let high = level_within b c q in
    CubeContains-from_places a c (omega arith) (λ axis h.
    sym (shr_twice (slice_index c.at axis) (c.level - b.level) (b.level - a.level) (c.level - a.level) (omega arith))
    ∙ ap (λ x. x / 2 ^ (b.level - a.level)) (place_within b c q axis h) ∙ place_within a b p axis h)

-- cubes of one level of which one contains the other are the same
pub CubeContains-turned : (a b : Cube) → a.level ≡ b.level → CubeContains a b → CubeContains b a
CubeContains-turned a b e p =
    CubeContains-from_places b a (omega arith) (λ axis h.
    let up : a.level - b.level ≡ 0 = omega arith in
    let down : b.level - a.level ≡ 0 = omega arith in
    let same : slice_index b.at axis / 2 ^ 0 ≡ slice_index a.at axis = rw down at (place_within a b p axis h) in
    rw up (omega arith))

-- of two cubes that hold a point the larger contains the other
pub CubeContains-holding : (a b : Cube) (point : List ℕ) → a.level ≤ b.level → b.level ≤ deepest_level → cube_holds a point → cube_holds b point → CubeContains a b
CubeContains-holding a b point l m p q =
    CubeContains-from_places a b l (λ axis h.
    ap (λ x. x / 2 ^ (b.level - a.level)) (sym (q axis h)) ∙ shr_twice (slice_index point axis) (20 - b.level) (b.level - a.level) (20 - a.level) (omega arith) ∙ p axis h)

-- of two cubes that contain a third one the larger contains the other
pub CubeContains-sharing : (a b c : Cube) → a.level ≤ b.level → CubeContains a c → CubeContains b c → CubeContains a b
CubeContains-sharing a b c l p q =
    let high = level_within b c q in
    CubeContains-from_places a b l (λ axis h.
    ap (λ x. x / 2 ^ (b.level - a.level)) (sym (place_within b c q axis h)) ∙ shr_twice (slice_index c.at axis) (c.level - b.level) (b.level - a.level) (c.level - a.level) (omega arith) ∙ place_within a c p axis h)

-- the three halves of an octant
octant_halves : (a b c : ℕ) → a < 2 → b < 2 → c < 2 → ((a + 2 * b + 4 * c) % 2 ≡ a) × (((a + 2 * b + 4 * c) / 2) % 2 ≡ b) × (((a + 2 * b + 4 * c) / 4) % 2 ≡ c)
octant_halves a b c p q r = (omega arith, omega arith, omega arith)

-- a coordinate's place at the next level, from its place and its half
half_step : (level x at half : ℕ) → level < deepest_level → x / side_of level ≡ at → half ≡ (x / side_of (level + 1)) % 2 → x / side_of (level + 1) ≡ 2 * at + half
half_step level x at half few held is =
    let next : (20 - (level + 1)) + 1 ≡ 20 - level = omega arith in
    let whole : x / 2 ^ ((20 - (level + 1)) + 1) ≡ at = ap (λ k. x / 2 ^ k) next ∙ held in
    omega (arith, shr-shr x (20 - (level + 1)) 1)

-- the cube of the octant holds the point
pub cube_holds-child_of : (cube : Cube) (point : List ℕ) → cube.level < deepest_level → cube_holds cube point → cube_holds (child_of cube (octant_of cube.level point)) point
cube_holds-child_of cube point few held =
    let a = half_of cube.level point 0 in
    let b = half_of cube.level point 1 in
    let c = half_of cube.level point 2 in
    let halves = octant_halves a b c (omega arith) (omega arith) (omega arith) in
    each_axis (λ axis. get_or point axis 0 / side_of (cube.level + 1) ≡ get_or (child_of cube (octant_of cube.level point)).at axis 0)
    (half_step cube.level (get_or point 0 0) (get_or cube.at 0 0) ((a + 2 * b + 4 * c) % 2) few (held 0 (omega arith)) halves.0)
    (half_step cube.level (get_or point 1 0) (get_or cube.at 1 0) (((a + 2 * b + 4 * c) / 2) % 2) few (held 1 (omega arith)) halves.1)
    (half_step cube.level (get_or point 2 0) (get_or cube.at 2 0) (((a + 2 * b + 4 * c) / 4) % 2) few (held 2 (omega arith)) halves.2)

-- a place at the next level, halved
half_drops : (level at half : ℕ) → half < 2 → (2 * at + half) / 2 ^ ((level + 1) - level) ≡ at
half_drops level at half low =
    let one : (level + 1) - level ≡ 1 = omega arith in
    let halved : (2 * at + half) / 2 ^ 1 ≡ at = omega arith in
    ap (λ k. (2 * at + half) / 2 ^ k) one ∙ halved

-- the cube of an octant lies in its cube
pub CubeContains-child_of : (cube : Cube) (octant : ℕ) → CubeContains cube (child_of cube octant)
CubeContains-child_of cube octant =
    CubeContains-from_places cube (child_of cube octant) (omega arith) (
    each_axis (λ axis. slice_index (child_of cube octant).at axis / 2 ^ ((cube.level + 1) - cube.level) ≡ slice_index cube.at axis)
    (half_drops cube.level (slice_index cube.at 0) (octant % 2) (omega arith))
    (half_drops cube.level (slice_index cube.at 1) ((octant / 2) % 2) (omega arith))
    (half_drops cube.level (slice_index cube.at 2) ((octant / 4) % 2) (omega arith)))

-- twice a place, and a half
double_below : (x n b : ℕ) → x < 2 ^ n → b < 2 → 2 * x + b < 2 ^ (n + 1)
double_below x n b h k = rw pow-add (omega arith)

-- and is a cube
pub IsCube-child : (c : Cube) (o : ℕ) → c.level < deepest_level → IsCube c → IsCube (child_of c o)
IsCube-child c o l h = record {
  level = omega arith;
  three = refl;
  within = each_axis (λ axis. slice_index (child_of c o).at axis < 2 ^ (c.level + 1))
      (double_below _ c.level _ (h.within 0 (omega arith)) (omega arith)) (double_below _ c.level _ (h.within 1 (omega arith)) (omega arith)) (double_below _ c.level _ (h.within 2 (omega arith)) (omega arith));
}

-- there are eight octants
pub octant-below : (level : ℕ) (point : List ℕ) → octant_of level point < 8
octant-below level point = omega arith

-- no cube lies in two of them
pub child_apart : (c x : Cube) (o p : ℕ) → o < 8 → p < 8 → CubeContains (child_of c o) x → CubeContains (child_of c p) x → o ≡ p
child_apart c x o p lo lp q r =
    let on = λ (axis : ℕ) (h : axis < 3). sym (place_within (child_of c o) x q axis h) ∙ place_within (child_of c p) x r axis h in
    let onx : 2 * slice_index c.at 0 + o % 2 ≡ 2 * slice_index c.at 0 + p % 2 = on 0 (omega arith) in
    let ony : 2 * slice_index c.at 1 + (o / 2) % 2 ≡ 2 * slice_index c.at 1 + (p / 2) % 2 = on 1 (omega arith) in
    let onz : 2 * slice_index c.at 2 + (o / 4) % 2 ≡ 2 * slice_index c.at 2 + (p / 4) % 2 = on 2 (omega arith) in
    omega arith

-- a cube holds each point that a cube within it holds
pub cube_holds-outer : (outer inner : Cube) (point : List ℕ) → IsCube inner → CubeContains outer inner → cube_holds inner point → cube_holds outer point
cube_holds-outer outer inner point is lies held axis low =
    let x = get_or point axis 0 in
    let level = level_within outer inner lies in
    let levels : (20 - inner.level) + (inner.level - outer.level) ≡ 20 - outer.level = omega (arith, is.level) in
    sym (shr_twice x (20 - inner.level) (inner.level - outer.level) (20 - outer.level) levels)
    ∙ ap (λ q. q / 2 ^ (inner.level - outer.level)) (held axis low) ∙ place_within outer inner lies axis low
