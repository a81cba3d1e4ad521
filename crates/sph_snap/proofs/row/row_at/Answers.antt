use Rattle.std.proofs.Common.{◌+◌}
use Rattle.sph_snap.specs.inner.Parts.{number_field}
use Rattle.sph_snap.proofs.Fit.{fails_behind, fails_here}
use Rattle.sph_snap.proofs.RowsRead.{from_h, from_mass, from_momentum, from_place, from_rho, row_fails, row_fits}
use Rattle.sph_snap.proofs.row.row_at.Goals as goal

pub returns-in_err-number_at : goal.returns-in_err-number_at
returns-in_err-number_at c =
    row_fails c.args.bytes.now c.args.number c.args.at c.from_residual.result _ c.from_residual.ensures.1
    (fails_here (from_mass c.args.at) c.in_err-number_at.ensures)

pub returns-in_err-number_at-2 : goal.returns-in_err-number_at-2
returns-in_err-number_at-2 c =
    row_fails c.args.bytes.now c.args.number c.args.at c.from_residual-in_err-number_at-2.result _ c.from_residual-in_err-number_at-2.ensures.1
    (fails_behind c.in_ok-number_at.ensures.0 (fails_here (from_h c.args.at) c.in_err-number_at-2.ensures))

pub returns-in_err-number_at-3 : goal.returns-in_err-number_at-3
returns-in_err-number_at-3 c =
    row_fails c.args.bytes.now c.args.number c.args.at c.from_residual-in_err-number_at-3.result _ c.from_residual-in_err-number_at-3.ensures.1
    (fails_behind c.in_ok-number_at.ensures.0 (fails_behind c.in_ok-number_at-2.ensures.0 (fails_here (from_place c.args.at) c.in_err-number_at-3.ensures)))

pub returns-in_err-place_at : goal.returns-in_err-place_at
returns-in_err-place_at c =
    row_fails c.args.bytes.now c.args.number c.args.at c.from_residual-in_err-place_at.result _ c.from_residual-in_err-place_at.ensures.1
    (fails_behind c.in_ok-number_at.ensures.0 (fails_behind c.in_ok-number_at-2.ensures.0 (fails_behind c.in_ok-number_at-3.ensures.0 (fails_here (from_momentum c.args.at) c.in_err-place_at.ensures))))

pub returns-in_err-momentum_at : goal.returns-in_err-momentum_at
returns-in_err-momentum_at c =
    row_fails c.args.bytes.now c.args.number c.args.at c.from_residual-in_err-momentum_at.result _ c.from_residual-in_err-momentum_at.ensures.1
    (fails_behind c.in_ok-number_at.ensures.0 (fails_behind c.in_ok-number_at-2.ensures.0 (fails_behind c.in_ok-number_at-3.ensures.0 (fails_behind c.in_ok-place_at.ensures.0 (fails_here (from_rho c.args.at) c.in_err-momentum_at.ensures)))))

pub returns-in_err-long_at : goal.returns-in_err-long_at
returns-in_err-long_at c =
    row_fails c.args.bytes.now c.args.number c.args.at c.from_residual-in_err-long_at.result _ c.from_residual-in_err-long_at.ensures.1
    (fails_behind c.in_ok-number_at.ensures.0 (fails_behind c.in_ok-number_at-2.ensures.0 (fails_behind c.in_ok-number_at-3.ensures.0 (fails_behind c.in_ok-place_at.ensures.0 (fails_behind c.in_ok-momentum_at.ensures.0 (fails_here (number_field (c.args.at + 80) 4 0 10) c.in_err-long_at.ensures.read))))))

pub returns-in_err-number_at-4 : goal.returns-in_err-number_at-4
returns-in_err-number_at-4 c =
    row_fails c.args.bytes.now c.args.number c.args.at c.from_residual-in_err-number_at-4.result _ c.from_residual-in_err-number_at-4.ensures.1
    (fails_behind c.in_ok-number_at.ensures.0 (fails_behind c.in_ok-number_at-2.ensures.0 (fails_behind c.in_ok-number_at-3.ensures.0 (fails_behind c.in_ok-place_at.ensures.0 (fails_behind c.in_ok-momentum_at.ensures.0 (fails_behind c.in_ok-long_at.ensures.read.0 c.in_err-number_at-4.ensures))))))

pub returns : goal.returns
returns c =
    row_fits c.args.bytes.now c.args.number c.args.at c.in_ok-number_at.field-0 c.in_ok-number_at-2.field-0 c.in_ok-number_at-3.field-0 c.in_ok-place_at.field-0 c.in_ok-momentum_at.field-0 c.in_ok-long_at.field-0 c.in_ok-number_at-4.field-0
    c.in_ok-number_at.ensures.0 c.in_ok-number_at.ensures.1
    c.in_ok-number_at-2.ensures.0 c.in_ok-number_at-2.ensures.1
    c.in_ok-number_at-3.ensures.0 c.in_ok-number_at-3.ensures.1
    c.in_ok-place_at.ensures.0 c.in_ok-place_at.ensures.1
    c.in_ok-momentum_at.ensures.0 c.in_ok-momentum_at.ensures.1
    c.in_ok-long_at.ensures.read.0 c.in_ok-long_at.ensures.read.1
    c.in_ok-number_at-4.ensures.0 c.in_ok-number_at-4.ensures.1
