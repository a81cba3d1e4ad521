-- Rows and snapshots in range: the bytes of each are a code.
use Rattle.std.proofs.Common.{◌≡◌, ℕ, ◌^◌, ◌<◌, List, ◌++◌, length, get_or, sym, ap, ap₂, subst, arith}
use Rattle.std.specs.Prelude.{ℤ, unsigned_abs}
use Rattle.std.specs.List.{All, flat_map}
use Rattle.std.proofs.lemmas.List.{append_assoc, append_cancel_left}
use Rattle.std.proofs.lemmas.List.Elements.{All-weaker}
use Rattle.byteorder.specs.Endian.{little_bytes}
use Rattle.sph_snap.specs.declared.snapshot.SnapRow.{SnapRow}
use Rattle.sph_snap.specs.declared.snapshot.Snapshot.{Snapshot}
use Rattle.sph_snap.specs.Snapshot.{IsRow, IsSnapshot, row_bytes, signed_bytes, snapshot_mark, spell}
use Rattle.sph_snap.proofs.Codes.{IsCode, IsCode-both, IsCode-list}
use Rattle.sph_snap.proofs.Numerals.{IsCode-number, IsCode-signed}

-- a row in its ranges, whose number fits four bytes
pub record IsNumberedRow (row : SnapRow) : Type 0 where
  pub ranges : IsRow row.number row
  pub fits : row.number < 256 ^ 4

-- three values with P
abbrev pub ThreeOf : {X : Type 0} → (X → Type 0) → List X → Type 0
ThreeOf P xs = (length xs ≡ 3) × All P xs

pub IsCode-three : {X : Type 0} (P : X → Type 0) (code : X → List ℕ) → IsCode P code → IsCode (ThreeOf P) (flat_map code)
IsCode-three {X = X} P code is = record { same = same }
  where
    same : (xs ys : List X) (a b : List ℕ) → ThreeOf P xs → ThreeOf P ys → flat_map code xs ++ a ≡ flat_map code ys ++ b → (xs ≡ ys) × (a ≡ b)
    same xs ys a b p q e = IsCode-list P code is xs ys a b p.1 q.1 (omega arith) e

-- a number of n bytes, and a component of a momentum
abbrev IsNumeral : ℕ → ℕ → Type 0
IsNumeral n x = x < 256 ^ n

abbrev IsComponent : ℤ → Type 0
IsComponent z = unsigned_abs z < 2 ^ 96

-- the parts of a row, in the order of their bytes
abbrev Parts : Type 0
Parts = (((((ℕ × ℕ) × ℕ) × List ℕ) × List ℤ) × ℕ) × ℕ

abbrev parts : SnapRow → Parts
parts row = ((((((row.number, row.mass), row.h), row.x), row.q), row.rho), row.bin)

abbrev joined : Parts → SnapRow
joined p =
    record { number = p.0.0.0.0.0.0; mass = p.0.0.0.0.0.1; h = p.0.0.0.0.1; x = p.0.0.0.1; q = p.0.0.1; rho = p.0.1; bin = p.1 }

abbrev ArePartsFit : ℕ → ℕ → Parts → Type 0
ArePartsFit n m p =
    (((((IsNumeral n p.0.0.0.0.0.0 × IsNumeral n p.0.0.0.0.0.1) × IsNumeral n p.0.0.0.0.1) × ThreeOf (IsNumeral n) p.0.0.0.1)
    × ThreeOf IsComponent p.0.0.1) × IsNumeral m p.0.1) × IsNumeral n p.1

abbrev part_bytes : ℕ → ℕ → Parts → List ℕ
part_bytes n m p =
    little_bytes n p.0.0.0.0.0.0 ++ little_bytes n p.0.0.0.0.0.1 ++ little_bytes n p.0.0.0.0.1 ++ flat_map (little_bytes n) p.0.0.0.1
    ++ flat_map signed_bytes p.0.0.1 ++ little_bytes m p.0.1 ++ little_bytes n p.1

IsCode-parts : (n m : ℕ) → IsCode (ArePartsFit n m) (part_bytes n m)
IsCode-parts n m =
    let one = IsCode-number n in
    let place = IsCode-three (IsNumeral n) (little_bytes n) one in
    let momentum = IsCode-three IsComponent signed_bytes IsCode-signed in
    let heavy = IsCode-both _ _ _ _ one one in
    let long = IsCode-both _ _ _ _ heavy one in
    let placed = IsCode-both _ _ _ _ long place in
    let moving = IsCode-both _ _ _ _ placed momentum in
    let dense = IsCode-both _ _ _ _ moving (IsCode-number m) in
    IsCode-both _ _ _ _ dense one

-- what the ranges of a row say of its parts
parts_fit : (row : SnapRow) → IsNumberedRow row → ArePartsFit 4 8 (parts row)
parts_fit row is =
    let ranges = is.ranges in
    let coordinates : All (IsNumeral 4) row.x = All-weaker (λ x. x < 2 ^ 20) (IsNumeral 4) (λ x h. omega arith) row.x ranges.place.1 in
    let mass : IsNumeral 4 row.mass = omega (arith, ranges.mass.high) in
    let h : IsNumeral 4 row.h = omega (arith, ranges.h.high) in
    let rho : IsNumeral 8 row.rho = omega (arith, ranges.density_high) in
    let bin : IsNumeral 4 row.bin = omega (arith, ranges.bin) in
    ((((((is.fits, mass), h), (ranges.place.0, coordinates)), (ranges.axes, ranges.momentum)), rho), bin)

pub IsCode-row : IsCode IsNumberedRow row_bytes
unfolding row_bytes
IsCode-row = record { same = same }
  where
    same : (x y : SnapRow) (a b : List ℕ) → IsNumberedRow x → IsNumberedRow y → row_bytes x ++ a ≡ row_bytes y ++ b → (x ≡ y) × (a ≡ b)
    same x y a b p q e =
        let all = (IsCode-parts 4 8).same (parts x) (parts y) a b (parts_fit x p) (parts_fit y q) e in
        (ap joined all.0, all.1)

-- a tick, a count and so many values behind a mark
headed : {X : Type 0} (mark : List ℕ) (n : ℕ) (P : X → Type 0) (code : X → List ℕ) → IsCode P code → (t u : ℕ) (xs ys : List X) (a b : List ℕ)
    → t < 256 ^ n → u < 256 ^ n → length xs < 256 ^ n → length ys < 256 ^ n → All P xs → All P ys
    → (mark ++ little_bytes n t ++ little_bytes n (length xs) ++ flat_map code xs) ++ a
    ≡ (mark ++ little_bytes n u ++ little_bytes n (length ys) ++ flat_map code ys) ++ b
    → (t ≡ u) × (xs ≡ ys) × (a ≡ b)
headed mark n P code is t u xs ys a b lt lu lx ly p q e =
    let behind = append_cancel_left mark _ _ (simp append_assoc at e) in
    let first = (IsCode-number n).same t u _ _ lt lu behind in
    let second = (IsCode-number n).same (length xs) (length ys) _ _ lx ly first.1 in
    let rows = IsCode-list P code is xs ys a b p q second.0 second.1 in
    (first.0, rows.0, rows.1)

-- the rows of a snapshot
pub rows_numbered : (s : Snapshot) → IsSnapshot s → All IsNumberedRow s.rows
rows_numbered s is k d h =
    let row = is.rows k d h in
    let few = is.few in
    record { ranges = subst (λ n. IsRow n (get_or s.rows k d)) (sym row.number_is) row; fits = omega (arith, row.number_is) }

-- a snapshot of a tick and rows
snapshot_at : ℕ → List SnapRow → Snapshot
snapshot_at tick rows = record { tick = tick; rows = rows }

pub IsCode-snapshot : IsCode IsSnapshot spell
unfolding spell snapshot_at
IsCode-snapshot = record { same = same }
  where
    same : (x y : Snapshot) (a b : List ℕ) → IsSnapshot x → IsSnapshot y → spell x ++ a ≡ spell y ++ b → (x ≡ y) × (a ≡ b)
    same x y a b p q e =
        let all = headed snapshot_mark 4 IsNumberedRow row_bytes IsCode-row x.tick y.tick x.rows y.rows a b
        (omega (arith, p.tick)) (omega (arith, q.tick)) (omega (arith, p.few)) (omega (arith, q.few)) (rows_numbered x p) (rows_numbered y q) e in
        (ap₂ snapshot_at all.0 all.1, all.2)
