use Rattle.std.proofs.Common.{inr}
use Rattle.sph_snap.specs.declared.snapshot.Snapshot.{Snapshot}
use Rattle.sph_snap.specs.Fields.{snapshot_fields}
use Rattle.sph_snap.specs.inner.Parts.{snapshot_in}
use Rattle.sph_snap.proofs.Fit.{GivesInRoom-fault}
use Rattle.sph_snap.proofs.SnapshotsRead.{count_fails, snapshot_fits, snapshot_rows_fail, tick_fails}
use Rattle.sph_snap.proofs.read.snapshot_at.Goals as goal

pub returns-in_err-tick : goal.returns-in_err-tick
returns-in_err-tick c =
    let bytes = c.args.bytes.now in
    GivesInRoom-fault (λ (s : Snapshot). s) bytes (snapshot_fields bytes c.args.least c.args.at) (snapshot_in bytes c.args.at)
    c.from_residual.result c.in_err-tick.field-0.0 c.from_residual.ensures.1
    (inr (tick_fails bytes c.args.least c.args.at c.in_err-tick.field-0.0 c.in_err-tick.ensures))

pub returns-in_err-count : goal.returns-in_err-count
returns-in_err-count c =
    let bytes = c.args.bytes.now in
    GivesInRoom-fault (λ (s : Snapshot). s) bytes (snapshot_fields bytes c.args.least c.args.at) (snapshot_in bytes c.args.at)
    c.from_residual-in_err-count.result c.in_err-count.field-0.0 c.from_residual-in_err-count.ensures.1
    (inr (count_fails bytes c.args.least c.args.at c.in_err-count.field-0.0 c.in_ok-tick.ensures.0 c.in_err-count.ensures))

pub returns-in_err-rows : goal.returns-in_err-rows
returns-in_err-rows c =
    let bytes = c.args.bytes.now in
    GivesInRoom-fault (λ (s : Snapshot). s) bytes (snapshot_fields bytes c.args.least c.args.at) (snapshot_in bytes c.args.at)
    c.from_residual-in_err-rows.result c.in_err-rows.field-0.0 c.from_residual-in_err-rows.ensures.1
    (snapshot_rows_fail bytes c.args.least c.args.at c.in_ok-count.count c.in_err-rows.field-0.0
    c.in_ok-tick.ensures.0 c.in_ok-count.ensures.0 c.in_ok-count.ensures.1 c.in_err-rows.ensures)

pub returns : goal.returns
returns c =
    snapshot_fits c.args.bytes.now c.args.least c.args.at c.in_ok-tick.tick c.in_ok-count.count c.in_ok-rows.rows.items c.from_vec.result
    c.in_ok-tick.ensures.0 c.in_ok-tick.ensures.1 c.in_ok-count.ensures.0 c.in_ok-count.ensures.1 c.in_ok-rows.ensures.0 c.in_ok-rows.ensures.1 c.from_vec.ensures
