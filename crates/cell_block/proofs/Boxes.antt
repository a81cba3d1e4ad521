-- Spots in boxes between which there are gaps.
use Rattle.std.proofs.Common.{ℕ, ◌+◌, ◌*◌, ◌≤◌, max, get_or, arith}
use Rattle.std.proofs.lemmas.Nat.{mul-le}
use Rattle.sph_num.specs.Space.{apart, axis2}
use Rattle.cell_block.specs.declared.rows.Spot.{Spot}
use Rattle.cell_block.specs.Extents.{IsBeyond}

-- a sum of three numbers, each within its bound
sum3-ge : (n r a b c l m o : ℕ) → n ≤ r → r ≤ a + b + c → a ≤ l → b ≤ m → c ≤ o → n ≤ l + m + o
sum3-ge n r a b c l m o low sum first second third = omega arith

-- the squares of the gaps add up to no less than that of the greater length
pub beyond : (p q : Spot) (x y z reach : ℕ) → max p.h q.h ≤ reach → reach * reach ≤ x * x + y * y + z * z → x ≤ apart (get_or p.place 0 0) (get_or q.place 0 0) → y ≤ apart (get_or p.place 1 0) (get_or q.place 1 0) → z ≤ apart (get_or p.place 2 0) (get_or q.place 2 0) → IsBeyond p q
beyond p q x y z reach longer far on_x on_y on_z =
    let h = max p.h q.h in
    sum3-ge (h * h) (reach * reach) (x * x) (y * y) (z * z) (axis2 p.place q.place 0) (axis2 p.place q.place 1) (axis2 p.place q.place 2)
    (mul-le h h reach reach longer longer) far (mul-le x x _ _ on_x on_x) (mul-le y y _ _ on_y on_y) (mul-le z z _ _ on_z on_z)
