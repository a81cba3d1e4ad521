use Rattle.std.proofs.Common.{ℕ, ◌*◌, ◌/◌, ◌^◌, ◌<◌, ◌≤◌, subst, arith}
use Rattle.sph_num.specs.inner.Parts.{AreReciprocals}
use Rattle.sph_num.proofs.Divisions.{div-lt}
use Rattle.sph_num.proofs.Parts.{two_divisions, volume_low, volume_high}
use Rattle.sph_num.proofs.length.Length.per_volume.Goals as goal

-- what is left of 64 bits
part-lt : (weighted h : ℕ) → weighted < 2 ^ 64 → 2 ^ 30 ≤ h * h * h → (weighted * 2 ^ 8) / (h * h * h) < 2 ^ 42
part-lt weighted h small low = div-lt (weighted * 2 ^ 8) (h * h * h) (2 ^ 30) (2 ^ 42) (omega arith) low (omega arith)

pub returns-in-Some-clause-value : goal.returns-in-Some-clause-value
returns-in-Some-clause-value c =
    let h = c.args.self.now in
    let are = subst (λ (n : ℕ). AreReciprocals n c.self.inside.by_square c.self.inside.by_cube) c.self.view_is c.self.invariant in
    c.in-Some.ensures (2 ^ 8) (h * h * h) (omega (arith, volume_low h are.is_length)) are.cube

pub returns-in-Some-clause-below : goal.returns-in-Some-clause-below
returns-in-Some-clause-below c =
    let h = c.args.self.now in
    let are = subst (λ (n : ℕ). AreReciprocals n c.self.inside.by_square c.self.inside.by_cube) c.self.view_is c.self.invariant in
    rw (returns-in-Some-clause-value c) (part-lt c.args.weighted h c.ranges.weighted.fits (volume_low h are.is_length))

pub returns-in-None-clause-value : goal.returns-in-None-clause-value
returns-in-None-clause-value c =
    let h = c.args.self.now in
    let are = subst (λ (n : ℕ). AreReciprocals n c.self.inside.by_square c.self.inside.by_cube) c.self.view_is c.self.invariant in
    rw (c.square.ensures, c.from.ensures, c.self.view_is)
    (two_divisions c.args.weighted (h * h * h) c.ranges.weighted.fits (volume_low h are.is_length) (volume_high h are.is_length))

pub returns-in-None-clause-below : goal.returns-in-None-clause-below
returns-in-None-clause-below c =
    let h = c.args.self.now in
    let are = subst (λ (n : ℕ). AreReciprocals n c.self.inside.by_square c.self.inside.by_cube) c.self.view_is c.self.invariant in
    rw (returns-in-None-clause-value c) (part-lt c.args.weighted h c.ranges.weighted.fits (volume_low h are.is_length))
