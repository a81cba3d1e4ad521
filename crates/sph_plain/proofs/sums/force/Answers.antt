use Rattle.std.proofs.Common.{◌≡◌, ◌*◌, ◌<◌, ◌≤◌, max, length, get_or, sym, ap, subst, ◌∙◌, arith}
use Rattle.sph_num.specs.Space.{IsPlace, dist2}
use Rattle.sph_plain.specs.declared.body.Body.{Body}
use Rattle.sph_plain.specs.declared.body.Spot.{Spot}
use Rattle.sph_plain.specs.inner.Bodies.{pulled}
use Rattle.sph_plain.proofs.Passes.{no_body}
use Rattle.sph_plain.proofs.Spots.{length-spots, spot_is}
use Rattle.sph_plain.proofs.Totals.{force_on_none, force_on_more, force_on_kept, force_on-lt}
use Rattle.sph_plain.proofs.sums.force.Goals as goal
use Rattle.sph_plain.proofs.sums.force.Goals.{then-r2-reach, else-r2-reach}

pub loop-j-init : goal.loop-j-init
loop-j-init c = force_on_none c.args.i.now c.args.bodies.now

pub dist2-r2-requires-clause-b_in_box : goal.dist2-r2-requires-clause-b_in_box
dist2-r2-requires-clause-b_in_box c =
    let bodies = c.args.bodies.now in
    let low : c.loop-j.j < length bodies = omega (arith, length-spots bodies c.args.spots.now c.requires.spots) in
    subst (λ (s : Spot). IsPlace s.place) (sym (spot_is bodies c.args.spots.now c.loop-j.j no_body c.requires.spots low)) (c.requires.bodies c.loop-j.j no_body low).place

pub add_pull-requires-clause-room : goal.add_pull-requires-clause-room
add_pull-requires-clause-room c =
    λ axis. rw c.loop-j.invariant (force_on-lt c.args.i.now c.args.bodies.now c.loop-j.j c.requires.body c.requires.bodies c.requires.count axis)

pub add_pull-requires-clause-distance : goal.add_pull-requires-clause-distance
add_pull-requires-clause-distance c =
    let bodies = c.args.bodies.now in
    let low : c.loop-j.j < length bodies = omega (arith, length-spots bodies c.args.spots.now c.requires.spots) in
    c.dist2-r2.ensures.value ∙ ap (λ (s : Spot). dist2 c.args.i.now.place s.place) (spot_is bodies c.args.spots.now c.loop-j.j c.index-bodies-j.result c.requires.spots low)
    ∙ ap (λ (b : Body). dist2 c.args.i.now.place b.place) (sym c.index-bodies-j.is)

pub loop-j-preserved : goal.loop-j-preserved
loop-j-preserved c =
    let i = c.args.i.now in
    let bodies = c.args.bodies.now in
    let k = c.loop-j.j in
    let low : k < length bodies = omega (arith, length-spots bodies c.args.spots.now c.requires.spots) in
    elim c.if-r2-reach.branch [
      | then-r2-reach w ↦ w.total-is ∙ w.add_pull.ensures ∙ ap (pulled c.loop-j.total i) w.index-bodies-j.is ∙ force_on_more i bodies k w.index-bodies-j.result c.loop-j.total low c.loop-j.invariant
      | else-r2-reach w ↦
          let j = get_or bodies k no_body in
          let spot = spot_is bodies c.args.spots.now k no_body c.requires.spots low in
          let greater : c.max.result ≡ max i.pull.h j.pull.h = rw (c.h-h.ensures.value, c.length.ensures, ap (λ (s : Spot). s.h) spot) at c.max.ensures in
          let reach : c.from-reach.result ≡ max i.pull.h j.pull.h = c.from-reach.ensures ∙ greater in
          let far : max i.pull.h j.pull.h * max i.pull.h j.pull.h ≤ dist2 i.place j.place =
          rw (reach, c.dist2-r2.ensures.value ∙ ap (λ (s : Spot). dist2 i.place s.place) spot) at w.if-r2-reach.false in
          w.total-is ∙ force_on_kept i bodies k no_body c.loop-j.total low c.loop-j.invariant far
    ]
