use Rattle.std.proofs.Common.{◌≡◌, ℕ, List, ap, ◌∙◌, length, arith}
use Rattle.lists.proofs.Elements.{written_back}
use Rattle.sph_num.specs.declared.particle.Particle.{Particle}
use Rattle.sph_num.specs.Bound.{bounds_of}
use Rattle.sph_bins.specs.Kick.{next_list}
use Rattle.cell_block.specs.declared.scene.Scene.{Scene}
use Rattle.sph_deck.specs.declared.deck.Deck.{Deck}
use Rattle.sph_plain.specs.Run.{after, before}
use Rattle.sph_step.specs.declared.stage.StagePlan.{StagePlan}
use Rattle.sph_step.specs.Made.{IsStageOf}
use Rattle.sph_step.proofs.stepping.GraphSteps.step.Goals as goal

-- what a stage of the list before a tick comes to is the list after it
after_is : (deck : Deck) (t : ℕ) (list : List Particle) (plan : StagePlan) → IsStageOf deck.params (bounds_of deck.particles) t list plan → list ≡ before deck t
    → next_list plan.scene.params plan.scene.start plan.scene.tick ≡ after deck t
unfolding after
after_is deck t list plan is from =
    ap (λ (s : Scene). next_list s.params s.start s.tick) is.scene ∙ ap (λ (l : List Particle). next_list deck.params l t) from

pub returns-in-Ok-clause-after : goal.returns-in-Ok-clause-after
returns-in-Ok-clause-after g c =
    let list = c.args.particles.now in
    let gathered = c.gather.new.particles in
    let long : length gathered ≡ length list.items = omega (arith, c.gather.auto.particles, ap length c.deref_mut.ensures.value) in
    written_back list.len list.items gathered list.ok.0 long ∙ c.gather.ensures
    ∙ after_is c.args.deck.now c.args.t c.deref.result.now c.in_ok-stage.stage c.in_ok-stage.ensures.stage (c.deref.ensures.value ∙ c.requires.before)
