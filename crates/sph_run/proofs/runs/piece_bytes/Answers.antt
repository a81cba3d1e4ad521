-- A snapshot's tick is a step tick, and the snapshot there is whole.
use Rattle.std.proofs.Common.{◌≡◌, ◌≤◌, List, length, sym, subst, ◌∙◌}
use Rattle.std.specs.List.{All}
use Rattle.sph_num.specs.declared.particle.Particle.{Particle}
use Rattle.sph_num.specs.Motion.{IsMomentum}
use Rattle.sph_num.specs.Ranges.{most_particles}
use Rattle.sph_plain.specs.Run.{after}
use Rattle.sph_snap.specs.Snapshot.{IsSnapshot, snapshot_of}
use Rattle.sph_run.proofs.Ticks.{IsStepTick-snapshot}
use Rattle.sph_run.proofs.Whole.{few_after, momenta_after, snapshots_are_whole}
use Rattle.sph_run.proofs.runs.piece_bytes.Goals as goal

pub step_through-requires-clause-last : goal.step_through-requires-clause-last
step_through-requires-clause-last g c =
    let deck = c.args.deck.now in
    IsStepTick-snapshot deck.params deck.particles c.args.tick deck.accepted c.requires.tick

-- the list that is written is the one after the step
pub put_snapshot-requires-clause-ranges : goal.put_snapshot-requires-clause-ranges
put_snapshot-requires-clause-ranges g c =
    let deck = c.args.deck.now in
    let written : after deck c.args.tick ≡ c.deref.result.now = sym (c.deref.ensures.value ∙ c.in_ok-step_through.ensures.after) in
    subst (λ (l : List Particle). IsSnapshot (snapshot_of c.args.tick l)) written (snapshots_are_whole deck c.args.tick deck.accepted c.requires.tick).ranges

pub put_snapshot-requires-clause-kicked : goal.put_snapshot-requires-clause-kicked
put_snapshot-requires-clause-kicked g c =
    let deck = c.args.deck.now in
    let written : after deck c.args.tick ≡ c.deref.result.now = sym (c.deref.ensures.value ∙ c.in_ok-step_through.ensures.after) in
    subst (λ (l : List Particle). All (λ (p : Particle). p.t0 ≡ c.args.tick) l) written (snapshots_are_whole deck c.args.tick deck.accepted c.requires.tick).kicked

-- and so is the list whose sums are written
pub summary_line-requires-clause-few : goal.summary_line-requires-clause-few
summary_line-requires-clause-few g c =
    let deck = c.args.deck.now in
    let added : after deck c.args.tick ≡ c.deref-in-Summary.result.now = sym (c.deref-in-Summary.ensures.value ∙ c.in_ok-step_through.ensures.after) in
    subst (λ (l : List Particle). length l ≤ most_particles) added (few_after deck c.args.tick deck.accepted c.requires.tick)

pub summary_line-requires-clause-momenta : goal.summary_line-requires-clause-momenta
summary_line-requires-clause-momenta g c =
    let deck = c.args.deck.now in
    let added : after deck c.args.tick ≡ c.deref-in-Summary.result.now = sym (c.deref-in-Summary.ensures.value ∙ c.in_ok-step_through.ensures.after) in
    subst (λ (l : List Particle). All (λ (p : Particle). IsMomentum p.q) l) added (momenta_after deck c.args.tick deck.accepted c.requires.tick)
