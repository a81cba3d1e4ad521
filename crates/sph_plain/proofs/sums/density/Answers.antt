use Rattle.std.proofs.Common.{◌≡◌, ◌*◌, ◌<◌, ◌≤◌, length, get_or, sym, ap, subst, ◌∙◌, arith}
use Rattle.sph_num.specs.Density.{density_part}
use Rattle.sph_num.specs.Space.{IsPlace, dist2}
use Rattle.sph_plain.specs.declared.body.Body.{Body}
use Rattle.sph_plain.specs.declared.body.Spot.{Spot}
use Rattle.sph_plain.proofs.Passes.{no_body}
use Rattle.sph_plain.proofs.Spots.{length-spots, spot_is}
use Rattle.sph_plain.proofs.Totals.{density_more, density_kept}
use Rattle.sph_plain.proofs.sums.density.Goals as goal
use Rattle.sph_plain.proofs.sums.density.Goals.{then-r2-reach, else-r2-reach}

pub dist2-r2-requires-clause-b_in_box : goal.dist2-r2-requires-clause-b_in_box
dist2-r2-requires-clause-b_in_box c =
    let bodies = c.args.bodies.now in
    let low : c.loop-j.j < length bodies = omega (arith, length-spots bodies c.args.spots.now c.requires.spots) in
    subst (λ (s : Spot). IsPlace s.place) (sym (spot_is bodies c.args.spots.now c.loop-j.j no_body c.requires.spots low)) (c.requires.bodies c.loop-j.j no_body low).place

pub loop-j-preserved : goal.loop-j-preserved
loop-j-preserved c =
    let i = c.args.i.now in
    let bodies = c.args.bodies.now in
    let k = c.loop-j.j in
    let low : k < length bodies = omega (arith, length-spots bodies c.args.spots.now c.requires.spots) in
    let distance = λ (d : Body). c.dist2-r2.ensures.value ∙ ap (λ (s : Spot). dist2 i.place s.place) (spot_is bodies c.args.spots.now k d c.requires.spots low) in
    elim c.if-r2-reach.branch [
      | then-r2-reach w ↦
          let j = w.index-bodies-j.result in
          let reach : c.dist2-r2.result < i.pull.h * i.pull.h = rw (c.square-reach.ensures, c.length-length.ensures) at w.if-r2-reach.true in
          let part : w.density_part-total.result ≡ density_part (get_or bodies k j).pull.mass c.dist2-r2.result i.pull.h = rw (w.mass.ensures.value, c.length-length.ensures) at w.density_part-total.ensures.value in
          record {
            so_far = w.total-is ∙ density_more i bodies k j c.loop-j.total w.density_part-total.result c.dist2-r2.result low c.loop-j.invariant.so_far (distance j) reach part;
            small = omega (arith, w.total-is, w.density_part-total.ensures.below, c.loop-j.invariant.small);
          }
      | else-r2-reach w ↦
          let beyond : i.pull.h * i.pull.h ≤ c.dist2-r2.result = rw (c.square-reach.ensures, c.length-length.ensures) at w.if-r2-reach.false in
          record {
            so_far = w.total-is ∙ density_kept i bodies k no_body c.loop-j.total c.dist2-r2.result low c.loop-j.invariant.so_far (distance no_body) beyond;
            small = omega (arith, w.total-is, c.loop-j.invariant.small);
          }
    ]
