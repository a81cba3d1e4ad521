use Rattle.std.proofs.Common.{◌≡◌, ◌*◌, ◌/◌, ◌<◌, arith}
use Rattle.std.proofs.lemmas.List.{get_or_read}
use Rattle.sph_num.specs.Kernel.{root_of}
use Rattle.sph_num.proofs.Roots.{IsRoot-root_of, root_of-lt}
use Rattle.sph_num.proofs.distance.Roots.root_before.Goals as goal

pub returns : goal.returns
returns c =
    let step = c.args.square / 256 in
    let few : step < 4096 = omega arith in
    let table = c.args.self.now.are_roots in
    let read = get_or_read c.args.self.now.table.items step _ (omega (arith, table.length)) c.index.ensures 0 in
    let root : c.from.result ≡ root_of (step * 256) 1024 = omega (arith, table.at step few, read) in
    let is = IsRoot-root_of (step * 256) 1024 (omega arith) in
    record {
      within = rw root (omega (arith, is.within));
      below = rw root (root_of-lt (step * 256) 1024 (omega arith) (omega arith));
    }
