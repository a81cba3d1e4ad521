use Rattle.std.proofs.Common.{inr}
use Rattle.std.specs.declared.alloc.Global.{Global}
use Rattle.std.specs.declared.vec.Vec.{Vec}
use Rattle.sph_snap.specs.declared.snapshot.SnapRow.{SnapRow}
use Rattle.sph_snap.specs.Fields.{rows_fields}
use Rattle.sph_snap.specs.inner.Parts.{rows_in}
use Rattle.sph_snap.proofs.Fit.{GivesInRoom-fault}
use Rattle.sph_snap.proofs.RowsRead.{rows_all, rows_fail, rows_more}
use Rattle.sph_snap.proofs.row.rows_at.Goals as goal

pub returns-in_err-row : goal.returns-in_err-row
returns-in_err-row c =
    let bytes = c.args.bytes.now in
    GivesInRoom-fault (λ (v : Vec SnapRow Global). v.items) bytes (rows_fields c.args.count 1 c.args.at) (rows_in bytes c.args.count c.args.at)
    c.from_residual-in_err-row.result c.in_err-row.field-0.0 c.from_residual-in_err-row.ensures.1
    (inr (rows_fail bytes c.args.at c.loop-i.i c.args.count c.loop-i.rows.items c.in_err-row.field-0.0 c.loop-i-test.true c.loop-i.invariant c.in_err-row.ensures))

pub loop-i-preserved : goal.loop-i-preserved
loop-i-preserved c =
    rows_more c.args.bytes.now c.args.at c.loop-i.i c.loop-i.rows.items c.push.new.self.items c.in_ok-row.row c.loop-i.invariant
    c.in_ok-row.ensures.0 c.in_ok-row.ensures.1 c.in_ok-push.ensures.items

pub returns : goal.returns
returns c =
    rows_all c.args.bytes.now c.args.at c.loop-i.i c.args.count c.loop-i.rows.items c.loop-i-test.false c.loop-i.auto.i-end c.loop-i.invariant
