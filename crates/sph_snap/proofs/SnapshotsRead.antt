-- What is read at the fields of a snapshot.
use Rattle.std.proofs.Common.{◌≡◌, ℕ, ◌+◌, ◌⊎◌, inl, inr, List, ◌++◌, refl, ap, subst}
use Rattle.byteorder.specs.Endian.{little_from}
use Rattle.sph_snap.specs.declared.fault.SnapFault.{SnapFault}
use Rattle.sph_snap.specs.declared.fault.SnapFault.TheVariants.{Memory}
use Rattle.sph_snap.specs.declared.snapshot.SnapRow.{SnapRow}
use Rattle.sph_snap.specs.declared.snapshot.Snapshot.{Snapshot}
use Rattle.sph_snap.specs.Fields.{Field, rows_fields, snapshot_fields}
use Rattle.sph_snap.specs.inner.Parts.{AllFit, FailsFirst, number_in, number_field, rows_in, snapshot_in}
use Rattle.sph_snap.proofs.Fit.{fails_behind, fails_here, fit_both}
use Rattle.sph_num.specs.Ranges.{most_particles}

-- the fields of the rows that follow the number of rows, and those from that number on
abbrev from_rows : List ℕ → ℕ → List Field
from_rows bytes at = rows_fields (little_from (at + 12) 4 bytes) 1 (at + 16)

abbrev from_count : List ℕ → ℕ → List Field
from_count bytes at = number_field (at + 12) 4 1 most_particles ++ from_rows bytes at

pub tick_fails : (bytes : List ℕ) (least at : ℕ) (fault : SnapFault) → FailsFirst bytes (number_field (at + 8) 4 least 65536) fault → FailsFirst bytes (snapshot_fields bytes least at) fault
unfolding snapshot_fields
tick_fails bytes least at fault e = fails_here (from_count bytes at) e

pub count_fails : (bytes : List ℕ) (least at : ℕ) (fault : SnapFault) → AllFit bytes (number_field (at + 8) 4 least 65536) → FailsFirst bytes (number_field (at + 12) 4 1 most_particles) fault
    → FailsFirst bytes (snapshot_fields bytes least at) fault
unfolding snapshot_fields
count_fails bytes least at fault p e =
    fails_behind p (fails_here (from_rows bytes at) e)

-- the number of rows as it was read
rows_counted : (bytes : List ℕ) (at count : ℕ) → count ≡ number_in bytes (at + 12) 4 → rows_fields count 1 (at + 16) ≡ from_rows bytes at
unfolding number_in
rows_counted bytes at count is = ap (λ n. rows_fields n 1 (at + 16)) is

pub snapshot_rows_fail : (bytes : List ℕ) (least at count : ℕ) (fault : SnapFault) → AllFit bytes (number_field (at + 8) 4 least 65536) → AllFit bytes (number_field (at + 12) 4 1 most_particles)
    → count ≡ number_in bytes (at + 12) 4 → (fault ≡ Memory) ⊎ FailsFirst bytes (rows_fields count 1 (at + 16)) fault
    → (fault ≡ Memory) ⊎ FailsFirst bytes (snapshot_fields bytes least at) fault
unfolding snapshot_fields
snapshot_rows_fail bytes least at count fault p q is (inl e) = inl e
snapshot_rows_fail bytes least at count fault p q is (inr e) =
    let rows = subst (λ l. FailsFirst bytes l fault) (rows_counted bytes at count is) e in
    inr (fails_behind p (fails_behind q rows))

pub snapshot_fits : (bytes : List ℕ) (least at tick count : ℕ) (rows list : List SnapRow) → AllFit bytes (number_field (at + 8) 4 least 65536) → tick ≡ number_in bytes (at + 8) 4
    → AllFit bytes (number_field (at + 12) 4 1 most_particles) → count ≡ number_in bytes (at + 12) 4
    → AllFit bytes (rows_fields count 1 (at + 16)) → rows ≡ rows_in bytes count (at + 16) → list ≡ rows
    → AllFit bytes (snapshot_fields bytes least at) × (◌≡◌ {A = Snapshot} (record { tick = tick; rows = list }) (snapshot_in bytes at))
unfolding snapshot_fields snapshot_in
snapshot_fits bytes least at tick count rows list p e q f r g h =
    let all = subst (AllFit bytes) (rows_counted bytes at count f) r in
    let fit = fit_both p (fit_both q all) in
    (fit, rw (h, g, e, f) refl)
