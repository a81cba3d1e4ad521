use Rattle.std.proofs.Common.{sym, subst}
use Rattle.sph_num.specs.Bound.{bounds_of}
use Rattle.sph_step.specs.Made.{IsStageOf}
use Rattle.sph_step.specs.Stage.{IsStage}
use Rattle.sph_step.proofs.preparing.stage_of.Goals as goal

pub returns : goal.returns
returns c =
    let deck = c.args.deck.now in
    record {
      stage = subst (IsStageOf deck.params (bounds_of deck.particles) c.args.t c.args.particles.now) (sym c.new-stage.ensures) c.in_ok-plan.ensures.of;
      kept = subst IsStage (sym c.new-stage.ensures) c.in_ok-plan.ensures.kept;
    }
