use Rattle.std.proofs.Common.{◌≡◌, ℕ, ◌*◌, ◌%◌, ◌^◌, ◌≤◌, pos, ◌<ℤ◌, to_z, ap, ◌∙◌, arith}
use Rattle.std.specs.Int.{w128}
use Rattle.std.proofs.lemmas.Int.{ints, to_z-of_z, to_z_pos, fits_signed_from_abs}
use Rattle.std.proofs.lemmas.Nat.{mul-le, pow_pos}
use Rattle.std.proofs.Math.Nat.{pow-le-pow_right, mod-eq_of_lt}
use Rattle.sph_num.specs.Motion.{position_of}
use Rattle.sph_num.specs.Ranges.{IsMass}
use Rattle.sph_num.specs.Totals.{component}
use Rattle.sph_num.proofs.motion.position.Goals as goal

-- a mass times a power of two, as the code shifts it
inertia-is : (mass shift : ℕ) → IsMass mass → shift ≤ 60 → to_z w128 ((mass * 2 ^ shift) % 2 ^ 128) ≡ pos (mass * 2 ^ shift)
inertia-is mass shift is small =
    let power : 2 ^ shift ≤ 2 ^ 60 = pow-le-pow_right (omega arith) small in
    let high = mul-le mass (2 ^ shift) (2 ^ 16) (2 ^ 60) is.high power in
    let whole : (mass * 2 ^ shift) % 2 ^ 128 ≡ mass * 2 ^ shift = mod-eq_of_lt (omega arith) in
    ap (to_z w128) whole ∙ to_z_pos w128 (mass * 2 ^ shift) (omega arith)

-- it is above 0
inertia_positive : (mass shift : ℕ) → IsMass mass → shift ≤ 60 → pos 0 <ℤ to_z w128 ((mass * 2 ^ shift) % 2 ^ 128)
inertia_positive mass shift is small =
    let low = mul-le 1 1 mass (2 ^ shift) is.low (pow_pos shift) in
    let positive : pos 0 <ℤ pos (mass * 2 ^ shift) = omega (arith, ints) in
    rw (inertia-is mass shift is small) positive

pub drifted-requires-2-clause-inertia : goal.drifted-requires-2-clause-inertia
drifted-requires-2-clause-inertia c =
    rw c.from.ensures (inertia_positive c.args.particle.now.mass c.args.shift c.requires.mass c.requires.shift)

pub drifted-requires-3-clause-inertia : goal.drifted-requires-3-clause-inertia
drifted-requires-3-clause-inertia c =
    rw c.from.ensures (inertia_positive c.args.particle.now.mass c.args.shift c.requires.mass c.requires.shift)

pub returns-clause-value : goal.returns-clause-value
unfolding position_of
returns-clause-value c =
    let particle = c.args.particle.now in
    let fits = λ (axis : ℕ). fits_signed_from_abs w128 (component particle.p axis) (omega (arith, c.requires.momentum axis)) in
    let px = fits 0 in
    let py = fits 1 in
    let pz = fits 2 in
    let inertia = inertia-is particle.mass c.args.shift c.requires.mass c.requires.shift in
    let x = simp to_z-of_z at (rw (c.from.ensures, inertia) at c.drifted.ensures.value) in
    let y = simp to_z-of_z at (rw (c.from.ensures, inertia) at c.drifted-2.ensures.value) in
    let z = simp to_z-of_z at (rw (c.from.ensures, inertia) at c.drifted-3.ensures.value) in
    cc
