use Rattle.std.proofs.lemmas.Result.{on_ok_weaker}
use Rattle.sph_snap.specs.Snapshot.{row_of}
use Rattle.sph_snap.proofs.Written.{row_put}
use Rattle.sph_snap.proofs.put.put_row.Goals as goal

pub returns : goal.returns
returns c =
    on_ok_weaker c.put_u32-4.result
    (row_put c.args.out.now.items (row_of c.args.number c.args.particle.now)
    c.put_u32.new.out.items c.put_u32-2.new.out.items c.put_u32-3.new.out.items c.put_u32s.new.out.items c.put_i128s.new.out.items
    c.put_u64.new.out.items c.put_u32-4.new.out.items
    c.in_ok-put_u32.ensures c.in_ok-put_u32-2.ensures c.in_ok-put_u32-3.ensures c.in_ok-put_u32s.ensures c.in_ok-put_i128s.ensures c.in_ok-put_u64.ensures)
    c.put_u32-4.ensures
