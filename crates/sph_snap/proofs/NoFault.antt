-- Where a row or a snapshot in range is spelled, its fields have no fault.
use Rattle.std.proofs.Common.{◌≡◌, ℕ, suc, ◌+◌, ◌*◌, ◌^◌, ◌<◌, ◌≤◌, Bool, true, eqb, ltb, None, List, [], ◌∷◌, ◌++◌, length, get_or, take, refl, sym, ap, ap₂, ◌∙◌, subst, arith, length-append, lt-ltb, eq-eqb, ◌-◌}
use Rattle.std.specs.Prelude.{ℤ, unsigned_abs, slice_get}
use Rattle.std.specs.Int.{cast_unsigned, w128}
use Rattle.std.specs.List.{All, flat_map, filter_map, cons_option}
use Rattle.std.proofs.lemmas.Bool.Decides.{nat_tests}
use Rattle.std.proofs.lemmas.List.{take_at}
use Rattle.std.proofs.lemmas.List.Elements.{filter_map-append}
use Rattle.byteorder.specs.Endian.{little_from, little_bytes}
use Rattle.byteorder.specs.Numbers.{little_number-reads_back, length-bytes_low_first}
use Rattle.sph_snap.specs.declared.snapshot.SnapRow.{SnapRow}
use Rattle.sph_snap.specs.declared.snapshot.Snapshot.{Snapshot}
use Rattle.sph_snap.specs.Fields.{Field, field, between, is_component, field_fault, row_fields, rows_fields, snapshot_fields, first_fault, is_coordinate}
use Rattle.sph_snap.specs.Snapshot.{IsRow, IsSnapshot, row_bytes, signed_bytes, snapshot_mark, spell}
use Rattle.sph_snap.specs.Reads.{IsMarkAt}
use Rattle.sph_snap.proofs.FieldsRead.{between-within}
use Rattle.sph_snap.proofs.Pieces.{IsAt, IsAt-first, IsAt-second, IsAt-fits}
use Rattle.sph_snap.proofs.Numerals.{little_from-drop, twos_complement-bits, bits-lt}
use Rattle.sph_num.specs.Ranges.{most_particles}
use Rattle.sph_num.specs.Space.{box_side}

-- the number whose bytes stand at the offset
pub number_at : (n x : ℕ) (bytes : List ℕ) (at : ℕ) → x < 256 ^ n → IsAt (little_bytes n x) bytes at → little_from at n bytes ≡ x
number_at n x bytes at h is =
    let here : at + 0 ≡ at = omega arith in
    ap (λ k. little_from k n bytes) (sym here) ∙ little_from-drop 0 n at bytes ∙ ap (little_from 0 n) is.is ∙ little_number-reads_back n x is.after h

-- a field of a number that it may hold
field_fault-none : (bytes : List ℕ) (at n x : ℕ) (fits : ℕ → Bool) → at + n ≤ length bytes → little_from at n bytes ≡ x → fits x ≡ true
    → field_fault bytes (field at n fits) ≡ None
unfolding field_fault
field_fault-none bytes at n x fits long is good =
    let holds : fits (little_from at n bytes) ≡ true = ap fits is ∙ good in
    grind (arith, nat_tests)

-- the piece has so many bytes, and wherever it stands at this offset the fields have no fault
pub record IsSound (piece : List ℕ) (at size : ℕ) (fields : List Field) : Type 0 where
  pub size_is : length piece ≡ size
  pub sound : (bytes : List ℕ) → IsAt piece bytes at → filter_map (field_fault bytes) fields ≡ []

-- bytes that are no field's
pub IsSound-skip : (p : List ℕ) (at size : ℕ) → length p ≡ size → IsSound p at size []
IsSound-skip p at size e = record { size_is = e; sound = λ bytes is. refl }

pub IsSound-append : {p q : List ℕ} {at m next n : ℕ} {fs gs : List Field} → IsSound p at m fs → IsSound q next n gs → next ≡ at + m → IsSound (p ++ q) at (m + n) (fs ++ gs)
IsSound-append {p = p} {q = q} {at = at} {m = m} {next = next} {n = n} {fs = fs} {gs = gs} first second e =
    record { size_is = length-append p q ∙ ap₂ (λ (a b : ℕ). a + b) first.size_is second.size_is; sound = sound }
  where
    sound : (bytes : List ℕ) → IsAt (p ++ q) bytes at → filter_map (field_fault bytes) (fs ++ gs) ≡ []
    sound bytes is =
        let behind : next ≡ at + length p = e ∙ ap (λ k. at + k) (sym first.size_is) in
        filter_map-append (field_fault bytes) fs gs
        ∙ ap₂ (λ xs ys. xs ++ ys) (first.sound bytes (IsAt-first p q bytes at is)) (second.sound bytes (IsAt-second p q bytes at next behind is))

-- a number that its field may hold
pub IsSound-number : (n x at : ℕ) (fits : ℕ → Bool) → 0 < n → x < 256 ^ n → fits x ≡ true → IsSound (little_bytes n x) at n (field at n fits ∷ [])
IsSound-number n x at fits some small good = record { size_is = length-bytes_low_first 0 n x; sound = sound }
  where
    sound : (bytes : List ℕ) → IsAt (little_bytes n x) bytes at → filter_map (field_fault bytes) (field at n fits ∷ []) ≡ []
    sound bytes is =
        let long = length-bytes_low_first 0 n x in
        let fits_in = IsAt-fits (little_bytes n x) bytes at (omega arith) is in
        ap (λ o. cons_option o []) (field_fault-none bytes at n x fits (omega arith) (number_at n x bytes at small is) good)

-- three values, each of which its field may hold
pub IsSound-three : {X : Type 0} (P : X → Type 0) (code : X → List ℕ) (n : ℕ) (fits : ℕ → Bool)
    → ((x : X) (at : ℕ) → P x → IsSound (code x) at n (field at n fits ∷ []))
    → (xs : List X) (at second third : ℕ) → length xs ≡ 3 → All P xs → second ≡ at + n → third ≡ second + n
    → IsSound (flat_map code xs) at (n + (n + (n + 0))) (field at n fits ∷ field second n fits ∷ field third n fits ∷ [])
IsSound-three P code n fits each [] at second third len all e f = absurd (omega arith)
IsSound-three P code n fits each (x ∷ []) at second third len all e f = absurd (omega arith)
IsSound-three P code n fits each (x ∷ y ∷ []) at second third len all e f = absurd (omega arith)
IsSound-three P code n fits each (x ∷ y ∷ z ∷ []) at second third len all e f =
    IsSound-append (each x at (all 0 x (omega arith)))
    (IsSound-append (each y second (all 1 x (omega arith)))
    (IsSound-append (each z third (all 2 x (omega arith))) (IsSound-skip [] (third + n) 0 refl) refl) f)
    e
IsSound-three P code n fits each (x ∷ y ∷ z ∷ w ∷ xs) at second third len all e f = absurd (omega arith)

-- a component of a momentum
component_fits : (z : ℤ) → unsigned_abs z < 2 ^ 96 → is_component (cast_unsigned w128 z) ≡ true
component_fits z h = ap (λ y. ltb (unsigned_abs y) (2 ^ 96)) (twos_complement-bits z h) ∙ lt-ltb (unsigned_abs z) (2 ^ 96) h

pub IsSound-component : (z : ℤ) (at : ℕ) → unsigned_abs z < 2 ^ 96 → IsSound (signed_bytes z) at 16 (field at 16 is_component ∷ [])
IsSound-component z at h = IsSound-number 16 (cast_unsigned w128 z) at is_component (omega arith) (bits-lt z h) (component_fits z h)

-- a number between two ends
pub IsSound-between : (n x at least greatest : ℕ) → 0 < n → greatest < 256 ^ n → least ≤ x → x ≤ greatest → IsSound (little_bytes n x) at n (field at n (between least greatest) ∷ [])
IsSound-between n x at least greatest some small p q = IsSound-number n x at (between least greatest) some (omega arith) (between-within least greatest x p q)

-- the fields of a row
pub IsSound-row : (number at : ℕ) (row : SnapRow) → IsRow number row → number < 256 ^ 4 → IsSound (row_bytes row) at 84 (row_fields number at)
unfolding row_bytes row_fields
IsSound-row number at row is fits =
    let numbered = IsSound-number 4 row.number at (λ n. eqb n number) (omega arith) (omega (arith, is.number_is)) (eq-eqb row.number number is.number_is) in
    let mass = IsSound-between 4 row.mass (at + 4) 1 65536 (omega arith) (omega arith) is.mass.low is.mass.high in
    let h = IsSound-between 4 row.h (at + 8) 1024 131072 (omega arith) (omega arith) is.h.low is.h.high in
    let place = IsSound-three (λ x. x < box_side) (little_bytes 4) 4 is_coordinate
    (λ x k below. IsSound-between 4 x k 0 (box_side - 1) (omega arith) (omega arith) (omega arith) (omega arith))
    row.x (at + 12) (at + 16) (at + 20) is.place.0 is.place.1 (omega arith) (omega arith) in
    let momentum = IsSound-three (λ z. unsigned_abs z < 2 ^ 96) signed_bytes 16 is_component IsSound-component
    row.q (at + 24) (at + 40) (at + 56) is.axes is.momentum (omega arith) (omega arith) in
    let rho = IsSound-between 8 row.rho (at + 72) 20 2305843009213693951 (omega arith) (omega arith) is.density_low (omega (arith, is.density_high)) in
    let bin = IsSound-between 4 row.bin (at + 80) 0 10 (omega arith) (omega arith) (omega arith) is.bin in
    IsSound-append
    (IsSound-append
    (IsSound-append
    (IsSound-append (IsSound-append (IsSound-append numbered mass refl) h refl) place refl)
    momentum refl)
    rho refl)
    bin refl

-- the fields of rows numbered on from a number
pub IsSound-rows : (rows : List SnapRow) (number at : ℕ) → ((k : ℕ) (d : SnapRow) → k < length rows → IsRow (number + k) (get_or rows k d)) → number + length rows ≤ 256 ^ 4
    → IsSound (flat_map row_bytes rows) at (84 * length rows) (rows_fields (length rows) number at)
IsSound-rows [] number at is few = IsSound-skip [] at 0 refl
IsSound-rows (row ∷ rows) number at is few =
    let size : 84 * suc (length rows) ≡ 84 + 84 * length rows = omega arith in
    let here : number + 0 ≡ number = omega arith in
    let first : IsRow number row = subst (λ n. IsRow n row) here (is 0 row (omega arith)) in
    let later = λ (k : ℕ) (d : SnapRow) (h : k < length rows).
    let moved : number + suc k ≡ suc number + k = omega arith in
    subst (λ n. IsRow n (get_or rows k d)) moved (is (suc k) d (omega arith)) in
    rw size (IsSound-append (IsSound-row number at row first (omega arith)) (IsSound-rows rows (suc number) (at + 84) later (omega arith)) refl)

-- the bytes of a snapshot up to its number of rows
abbrev head_bytes : Snapshot → List ℕ
head_bytes s = snapshot_mark ++ little_bytes 4 s.tick ++ little_bytes 4 (length s.rows)

-- the number of rows where a snapshot is spelled
count_at : (s : Snapshot) (bytes : List ℕ) (at : ℕ) → length s.rows ≤ most_particles → IsAt (spell s) bytes at → little_from (at + 12) 4 bytes ≡ length s.rows
unfolding spell
count_at s bytes at few is =
    number_at 4 (length s.rows) bytes (at + 12) (omega arith)
    (IsAt-second (snapshot_mark ++ little_bytes 4 s.tick) (little_bytes 4 (length s.rows)) bytes at (at + 12) refl (IsAt-first (head_bytes s) (flat_map row_bytes s.rows) bytes at is))

-- the fields of a snapshot whose tick is high enough, but for their number
pub IsSound-snapshot : (s : Snapshot) (at least : ℕ) → IsSnapshot s → least ≤ s.tick
    → IsSound (spell s) at (16 + 84 * length s.rows)
    (field (at + 8) 4 (between least 65536) ∷ field (at + 12) 4 (between 1 most_particles) ∷ rows_fields (length s.rows) 1 (at + 16))
unfolding spell
IsSound-snapshot s at least is high =
    let few = is.few in
    let tick = IsSound-between 4 s.tick (at + 8) least 65536 (omega arith) (omega arith) high is.tick in
    let count = IsSound-between 4 (length s.rows) (at + 12) 1 most_particles (omega arith) (omega arith) is.some few in
    let rows = IsSound-rows s.rows 1 (at + 16) (λ k d h. let next : suc k ≡ 1 + k = omega arith in subst (λ n. IsRow n (get_or s.rows k d)) next (is.rows k d h)) (omega arith) in
    IsSound-append (IsSound-append (IsSound-append (IsSound-skip snapshot_mark at 8 refl) tick refl) count refl) rows refl

-- how many bytes a snapshot has
pub length-spell : (s : Snapshot) → IsSnapshot s → length (spell s) ≡ 16 + 84 * length s.rows
length-spell s is = (IsSound-snapshot s 0 0 is (omega arith)).size_is

-- where a snapshot in range is spelled, its fields have no fault
pub snapshot_fields-none : (s : Snapshot) (bytes : List ℕ) (least at : ℕ) → IsSnapshot s → least ≤ s.tick → IsAt (spell s) bytes at
    → first_fault bytes (snapshot_fields bytes least at) ≡ None
unfolding snapshot_fields
snapshot_fields-none s bytes least at is high stands =
    let count = count_at s bytes at is.few stands in
    let none = (IsSound-snapshot s at least is high).sound bytes stands in
    rw count (ap (λ faults. slice_get faults 0) none)

-- where a snapshot is spelled, its mark stands
pub mark_at : (s : Snapshot) (bytes : List ℕ) (at : ℕ) → IsAt (spell s) bytes at → IsMarkAt snapshot_mark bytes at
unfolding spell
mark_at s bytes at is =
    let first = IsAt-first snapshot_mark (little_bytes 4 s.tick) bytes at (IsAt-first (snapshot_mark ++ little_bytes 4 s.tick) (little_bytes 4 (length s.rows)) bytes at (IsAt-first (head_bytes s) (flat_map row_bytes s.rows) bytes at is)) in
    ap (take 8) first.is ∙ take_at snapshot_mark first.after 8 refl
