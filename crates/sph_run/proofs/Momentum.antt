-- With one time bin each snapshot has the momentum of the deck.
use Rattle.std.proofs.Common.{◌≡◌, ℕ, suc, ◌*◌, ◌/◌, ◌≤◌, List, [], ◌∷◌, refl, ap, ◌∙◌, arith}
use Rattle.std.specs.Prelude.{◌+ℤ◌}
use Rattle.sph_num.specs.declared.particle.Particle.{Particle}
use Rattle.sph_num.specs.Totals.{component, total_by}
use Rattle.sph_plain.specs.Run.{after}
use Rattle.sph_plain.proofs.Balance.{momentum_is_kept}
use Rattle.sph_snap.specs.declared.snapshot.SnapRow.{SnapRow}
use Rattle.sph_snap.specs.declared.snapshot.Snapshot.{Snapshot}
use Rattle.sph_snap.specs.Snapshot.{rows_from}
use Rattle.sph_run.specs.Laws.{SnapshotsKeepMomentum}
use Rattle.sph_run.proofs.Streams.{get_or-snapshots_of, length-snapshots_of}
use Rattle.sph_run.proofs.Ticks.{IsSnapshotTick-multiple, IsStepTick-snapshot}

-- the rows of particles have their momenta
total_rows : (axis number : ℕ) (list : List Particle) → total_by (λ (row : SnapRow). component row.q axis) (rows_from number list) ≡ total_by (λ (i : Particle). component i.q axis) list
total_rows axis number [] = refl
total_rows axis number (i ∷ list) = ap (λ z. component i.q axis +ℤ z) (total_rows axis (suc number) list)

pub snapshots_keep_momentum : SnapshotsKeepMomentum
snapshots_keep_momentum deck axis are one real k d inside =
    let early : k ≤ deck.params.ticks / deck.params.every = omega (arith, length-snapshots_of deck) in
    let t = k * deck.params.every in
    let tick = IsStepTick-snapshot deck.params deck.particles t are (IsSnapshotTick-multiple deck.params k early) in
    ap (λ (s : Snapshot). total_by (λ (row : SnapRow). component row.q axis) s.rows) (get_or-snapshots_of deck k d early)
    ∙ total_rows axis 1 (after deck t) ∙ momentum_is_kept deck t axis are one tick real
