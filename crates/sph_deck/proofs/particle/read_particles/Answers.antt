use Rattle.std.proofs.Common.{arith}
use Rattle.sph_deck.proofs.Elements.{elements_more, meets_more}
use Rattle.sph_deck.proofs.Walks.{none_before}
use Rattle.sph_deck.proofs.particle.read_particles.Goals as goal
use Rattle.sph_deck.proofs.particle.read_particles.Goals.{in-Some+in_ok-push, in_default}

pub loop-i-preserved : goal.loop-i-preserved
loop-i-preserved c = record {
  met = meets_more c.args.array.now c.loop-i.i c.index-array-i.result (omega arith) c.index-array-i.is c.loop-i.invariant.met c.read_element.ensures.faults;
  read = λ none.
      let before = c.loop-i.invariant.read (none_before _ _ c.read_element.ensures.faults none) in
      elim c.match-read_element.branch [
        | in-Some+in_ok-push w ↦
            rw (w.particles-is, w.in_ok-push.ensures.items)
            (elements_more c.args.array.now c.loop-i.particles.items c.loop-i.i c.index-array-i.result w.in-Some.particle (omega arith) c.index-array-i.is before (w.in-Some.ensures.read none))
        | in_default w ↦ absurd (w.in_default.ensures.read none)
      ];
}
