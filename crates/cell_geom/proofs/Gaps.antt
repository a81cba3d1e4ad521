-- The gap of two cubes on an axis, from their ends, and the law that moved points keep it.
use Rattle.std.proofs.Common.{◌≡◌, ℕ, ◌+◌, ◌-◌, ◌*◌, ◌^◌, ◌<◌, ◌≤◌, min, max, List, map, flat_map, get_or, subst, inl, inr, ◌∙◌, arith}
use Rattle.std.specs.List.{All, Contains}
use Rattle.std.proofs.lemmas.Bool.{cases_lt}
use Rattle.std.proofs.lemmas.List.Elements.{All-contains, All-map}
use Rattle.std.proofs.lemmas.Nat.{mul-le}
use Rattle.lists.proofs.Elements.{Contains-map, Contains-flat_map, All-flat_map, All-from_Contains}
use Rattle.lists.proofs.Extremes.{fold_min-ge, All-fold_min}
use Rattle.sph_num.specs.Bound.{least_of}
use Rattle.sph_num.specs.Space.{box_side, apart, axis2}
use Rattle.sph_num.proofs.Ring.{coordinate-lt, apart_is, apart_self, apart-comm, apart_moved}
use Rattle.cell_geom.specs.declared.cube.Cube.{Cube}
use Rattle.cell_geom.specs.Cube.{cube_holds}
use Rattle.cell_geom.specs.Gap.{coordinates, axis_gap_of, gap2_of, slackened, IsMoved, KeepsGap}
use Rattle.cell_geom.specs.inner.Ends.{AreEnds}
use Rattle.cell_geom.proofs.Ends.{Contains-coordinates, ordered, between_ends, Contains-between}

-- the number is the distance of a coordinate of the one cube from one of the other, and no distance is less
record IsLeast (a b : Cube) (axis gap : ℕ) : Type 0 where
  x : ℕ
  y : ℕ
  of_a : Contains (coordinates a axis) x
  of_b : Contains (coordinates b axis) y
  reached : apart x y ≡ gap
  least : (x y : ℕ) → Contains (coordinates a axis) x → Contains (coordinates b axis) y → gap ≤ apart x y

-- a number that is no more than any of the list, and is one of them, is the least
least_is : (least : ℕ) (xs : List ℕ) → All (λ x. least ≤ x) xs → Contains xs least → least_of xs ≡ least
least_is least xs each c =
    let l = c.1 in
    let first = get_or xs 0 0 in
    let low = fold_min-ge least first xs (each 0 0 (omega arith)) each in
    let high = All-contains (λ x. least_of xs ≤ x) xs least (All-fold_min first xs) c in
    omega arith

-- the least distance is the gap
axis_gap_is : (a b : Cube) (axis gap : ℕ) → IsLeast a b axis gap → axis_gap_of a b axis ≡ gap
unfolding axis_gap_of
axis_gap_is a b axis gap is =
    let from = λ (x : ℕ). map (λ y. apart x y) (coordinates b axis) in
    let distances = flat_map from (coordinates a axis) in
    least_is gap distances
    (All-flat_map (λ d. gap ≤ d) from (coordinates a axis)
    (All-from_Contains (λ x. All (λ d. gap ≤ d) (from x)) (coordinates a axis)
    (λ x c. All-map (λ d. gap ≤ d) (λ y. apart x y) (coordinates b axis)
    (All-from_Contains (λ y. gap ≤ apart x y) (coordinates b axis) (λ y d. is.least x y c d)))))
    (subst (Contains distances) is.reached
    (Contains-flat_map from (coordinates a axis) is.x (apart is.x is.y) is.of_a (Contains-map (λ y. apart is.x y) (coordinates b axis) is.y is.of_b)))

-- a cube below another on an axis: the nearest coordinates are the ends that face each other, one way round or the other
facing_ends : (a b : Cube) (axis a0 a1 b0 b1 gap : ℕ) → AreEnds a axis a0 a1 → AreEnds b axis b0 b1 → a1 < b0 → gap ≡ min (b0 - a1) (a0 + box_side - b1) → IsLeast a b axis gap
facing_ends a b axis a0 a1 b0 b1 gap of_a of_b below is =
    let low_a = of_a.in_box in
    let low_b = of_b.in_box in
    let order_a = ordered a axis a0 a1 of_a in
    let order_b = ordered b axis b0 b1 of_b in
    let first_a = Contains-between a axis a0 a1 of_a a0 (omega arith) order_a in
    let last_a = Contains-between a axis a0 a1 of_a a1 order_a (omega arith) in
    let first_b = Contains-between b axis b0 b1 of_b b0 (omega arith) order_b in
    let last_b = Contains-between b axis b0 b1 of_b b1 order_b (omega arith) in
    let least = λ (x y : ℕ) (on_a : Contains (coordinates a axis) x) (on_b : Contains (coordinates b axis) y).
    let within_a = between_ends a axis a0 a1 of_a x on_a in
    let within_b = between_ends b axis b0 b1 of_b y on_b in
    let far : gap ≤ apart x y = omega (arith, apart_is x y (omega arith) (omega arith)) in far in
    elim (cases_lt (a0 + 2 ^ 20 - b1) (b0 - a1)) [
      | inl across ↦ record { x = a0; y = b1; of_a = first_a; of_b = last_b; reached = omega (arith, apart_is a0 b1 (omega arith) low_b); least = least }
      | inr within ↦ record { x = a1; y = b0; of_a = last_a; of_b = first_b; reached = omega (arith, apart_is a1 b0 low_a (omega arith)); least = least }
    ]

module _ (a b : Cube) (axis a0 a1 b0 b1 : ℕ) (of_a : AreEnds a axis a0 a1) (of_b : AreEnds b axis b0 b1) where
  -- so that is the gap of a cube from one above it
  pub axis_gap_of-below : (gap : ℕ) → a1 < b0 → gap ≡ min (b0 - a1) (a0 + box_side - b1) → axis_gap_of a b axis ≡ gap
  axis_gap_of-below gap below is = axis_gap_is a b axis gap (facing_ends a b axis a0 a1 b0 b1 gap of_a of_b below is)

  -- and from one below it
  pub axis_gap_of-above : (gap : ℕ) → b1 < a0 → gap ≡ min (a0 - b1) (b0 + box_side - a1) → axis_gap_of a b axis ≡ gap
  axis_gap_of-above gap above is =
      let turned = facing_ends b a axis b0 b1 a0 a1 gap of_b of_a above is in
      let low = λ (x : ℕ) (on_a : Contains (coordinates a axis) x). let w = between_ends a axis a0 a1 of_a x on_a in let l : x < box_side = omega (arith, of_a.in_box) in l in
      let low' = λ (y : ℕ) (on_b : Contains (coordinates b axis) y). let w = between_ends b axis b0 b1 of_b y on_b in let l : y < box_side = omega (arith, of_b.in_box) in l in
      axis_gap_is a b axis gap (record {
        x = turned.y;
        y = turned.x;
        of_a = turned.of_b;
        of_b = turned.of_a;
        reached = apart-comm turned.y turned.x (low turned.y turned.of_b) (low' turned.x turned.of_a) ∙ turned.reached;
        least = λ x y on_a on_b. omega (arith, apart-comm y x (low' y on_b) (low x on_a), turned.least y x on_b on_a);
      })

  -- two cubes that share a coordinate on an axis have no gap there
  pub axis_gap_of-shared : b0 ≤ a1 → a0 ≤ b1 → axis_gap_of a b axis ≡ 0
  axis_gap_of-shared up down =
      let x = max a0 b0 in
      let order_a = ordered a axis a0 a1 of_a in
      let order_b = ordered b axis b0 b1 of_b in
      axis_gap_is a b axis 0 (record {
        x = x;
        y = x;
        of_a = Contains-between a axis a0 a1 of_a x (omega arith) (omega arith);
        of_b = Contains-between b axis b0 b1 of_b x (omega arith) (omega arith);
        reached = apart_self x (omega (arith, of_a.in_box));
        least = λ x y on_a on_b. omega arith;
      })

-- no coordinates of two cubes are nearer than their gap
axis_gap_of-le : (a b : Cube) (axis x y : ℕ) → Contains (coordinates a axis) x → Contains (coordinates b axis) y → axis_gap_of a b axis ≤ apart x y
unfolding axis_gap_of
axis_gap_of-le a b axis x y on_a on_b =
    let from = λ (x : ℕ). map (λ y. apart x y) (coordinates b axis) in
    let distances = flat_map from (coordinates a axis) in
    All-contains (λ d. least_of distances ≤ d) distances (apart x y) (All-fold_min (get_or distances 0 0) distances)
    (Contains-flat_map from (coordinates a axis) x (apart x y) on_a (Contains-map (λ y. apart x y) (coordinates b axis) y on_b))

-- on one axis, points that two cubes hold keep the gap as they move
axis_keeps : (a b : Cube) (slack axis : ℕ) (p q p' q' : List ℕ) → axis < 3 → cube_holds a p → cube_holds b q → IsMoved slack p p' → IsMoved slack q q'
    → slackened (axis_gap_of a b axis) slack ≤ axis2 p' q' axis
axis_keeps a b slack axis p q p' q' low held_p held_q moved_p moved_q =
    let gap = axis_gap_of a b axis in
    let x = get_or p axis 0 in
    let y = get_or q axis 0 in
    let x' = get_or p' axis 0 in
    let y' = get_or q' axis 0 in
    let before = axis_gap_of-le a b axis x y (Contains-coordinates a axis x (held_p axis low)) (Contains-coordinates b axis y (held_q axis low)) in
    let after = apart_moved x y x' y' (coordinate-lt p axis moved_p.was low) (coordinate-lt q axis moved_q.was low) (coordinate-lt p' axis moved_p.now low) (coordinate-lt q' axis moved_q.now low) in
    let near : gap - 2 * slack ≤ apart x' y' = omega (arith, moved_p.near axis low, moved_q.near axis low) in
    mul-le (gap - 2 * slack) (gap - 2 * slack) (apart x' y') (apart x' y') near near

-- a sum of three numbers, each within its bound
sum3-le : (a b c l m n : ℕ) → a ≤ l → b ≤ m → c ≤ n → a + b + c ≤ l + m + n
sum3-le a b c l m n p q r = omega arith

-- so in the box they keep the square of the gap
pub KeepsGap-gap2_of : (a b : Cube) (slack : ℕ) → KeepsGap a b slack (gap2_of a b slack)
KeepsGap-gap2_of a b slack p q p' q' held_p held_q moved_p moved_q =
    sum3-le (slackened (axis_gap_of a b 0) slack) (slackened (axis_gap_of a b 1) slack) (slackened (axis_gap_of a b 2) slack) (axis2 p' q' 0) (axis2 p' q' 1) (axis2 p' q' 2)
    (axis_keeps a b slack 0 p q p' q' (omega arith) held_p held_q moved_p moved_q)
    (axis_keeps a b slack 1 p q p' q' (omega arith) held_p held_q moved_p moved_q)
    (axis_keeps a b slack 2 p q p' q' (omega arith) held_p held_q moved_p moved_q)
