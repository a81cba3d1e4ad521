use Rattle.std.proofs.Common.{◌≡◌, ℕ, ◌+◌, ◌*◌, ◌%◌, ◌^◌, ◌<◌, ◌≤◌, sym, arith}
use Rattle.sph_num.specs.inner.Parts.{coarse_root}
use Rattle.sph_num.proofs.Roots.{root_of-is}
use Rattle.sph_num.proofs.distance.coarse_root.Goals as goal

-- the square root as a distance
coarse_root-is : (step root : ℕ) → root * root ≤ step * 256 → step * 256 < (root + 1) * (root + 1) → root ≡ coarse_root step
coarse_root-is step root within above =
    sym (root_of-is (step * 256) 1024 root (omega arith) (record { within = omega arith; above = omega arith }))

pub returns : goal.returns
returns c =
    let whole : (c.args.step * 256) % 2 ^ 64 ≡ c.args.step * 256 = omega arith in
    coarse_root-is c.args.step c.isqrt.result (rw whole at c.isqrt.ensures.square_le) (rw whole at c.isqrt.ensures.next_square_gt)
