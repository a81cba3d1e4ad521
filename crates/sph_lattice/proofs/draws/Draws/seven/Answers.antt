-- The draws one after another.
use Rattle.std.proofs.Common.{◌≡◌, ◌+◌, refl, ap, ◌∙◌, arith}
use Rattle.sph_lattice.specs.Lattice.{sequence}
use Rattle.sph_lattice.proofs.Numbered.{drawn}
use Rattle.sph_lattice.proofs.draws.Draws.seven.Goals as goal

pub returns-clause-draws : goal.returns-clause-draws
returns-clause-draws c seed k is =
    let a = drawn seed k _ _ _ is c.draw-first.ensures.number c.draw-first.ensures.value in
    let b = drawn seed (k + 1) _ _ _ a.number c.draw-second.ensures.number c.draw-second.ensures.value in
    let d = drawn seed (k + 1 + 1) _ _ _ b.number c.draw-third.ensures.number c.draw-third.ensures.value in
    let e = drawn seed (k + 1 + 1 + 1) _ _ _ d.number c.draw-fourth.ensures.number c.draw-fourth.ensures.value in
    let f = drawn seed (k + 1 + 1 + 1 + 1) _ _ _ e.number c.draw-fifth.ensures.number c.draw-fifth.ensures.value in
    let g = drawn seed (k + 1 + 1 + 1 + 1 + 1) _ _ _ f.number c.draw-sixth.ensures.number c.draw-sixth.ensures.value in
    let h = drawn seed (k + 1 + 1 + 1 + 1 + 1 + 1) _ _ _ g.number c.draw-seventh.ensures.number c.draw-seventh.ensures.value in
    rw (a.value_is, b.value_is, d.value_is, e.value_is, f.value_is, g.value_is, h.value_is) refl

pub returns-clause-number : goal.returns-clause-number
returns-clause-number c seed k is =
    let a = drawn seed k _ _ _ is c.draw-first.ensures.number c.draw-first.ensures.value in
    let b = drawn seed (k + 1) _ _ _ a.number c.draw-second.ensures.number c.draw-second.ensures.value in
    let d = drawn seed (k + 1 + 1) _ _ _ b.number c.draw-third.ensures.number c.draw-third.ensures.value in
    let e = drawn seed (k + 1 + 1 + 1) _ _ _ d.number c.draw-fourth.ensures.number c.draw-fourth.ensures.value in
    let f = drawn seed (k + 1 + 1 + 1 + 1) _ _ _ e.number c.draw-fifth.ensures.number c.draw-fifth.ensures.value in
    let g = drawn seed (k + 1 + 1 + 1 + 1 + 1) _ _ _ f.number c.draw-sixth.ensures.number c.draw-sixth.ensures.value in
    let h = drawn seed (k + 1 + 1 + 1 + 1 + 1 + 1) _ _ _ g.number c.draw-seventh.ensures.number c.draw-seventh.ensures.value in
    let all : k + 1 + 1 + 1 + 1 + 1 + 1 + 1 ≡ k + 7 = omega arith in
    h.number ∙ ap (sequence seed) all
