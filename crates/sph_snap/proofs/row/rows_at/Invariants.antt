use Rattle.sph_snap.proofs.RowsRead.{AreRowsRead}
use Rattle.sph_snap.proofs.row.rows_at.Given as goal

abbrev pub invariant-loop-i : goal.invariant-loop-i
invariant-loop-i l = AreRowsRead l.bytes l.at l.i l.rows.items
