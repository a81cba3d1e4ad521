use Rattle.std.proofs.Common.{rules, ◌≡◌, pos, get_or, to_z, of_z}
use Rattle.std.specs.Int.{w128}
use Rattle.sph_snap.specs.Snapshot.{signed_bytes}
use Rattle.sph_snap.proofs.Bytes.{flat_map_next}
use Rattle.sph_snap.proofs.put.put_i128s.Goals as goal

pub loop-n-preserved : goal.loop-n-preserved
loop-n-preserved c =
    let n = get_or c.args.numbers.now c.loop-n.n-index (pos 0) in
    let same : to_z w128 (of_z w128 n) ≡ n = search rules in
    flat_map_next signed_bytes c.args.out.now.items c.loop-n.out.items c.put_i128.new.out.items c.args.numbers.now c.loop-n.n-index (to_z w128 (of_z w128 n)) (pos 0)
    c.loop-n-test.true c.loop-n.invariant c.in_ok-put_i128.ensures same
