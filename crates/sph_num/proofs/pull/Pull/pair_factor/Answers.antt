use Rattle.std.proofs.Common.{◌≡◌, sym, ap, ◌∙◌}
use Rattle.sph_num.specs.inner.Parts.{slope_within}
use Rattle.sph_num.specs.Pull.{Puller}
use Rattle.sph_num.proofs.Pulls.{pair_factor-is}
use Rattle.sph_num.proofs.pull.Pull.pair_factor.Goals as goal
use Rattle.sph_num.proofs.pull.Pull.pair_factor.Goals.{then-h, else-h}

pub returns-clause-value : goal.returns-clause-value
returns-clause-value c =
    let i = c.args.self.now in
    let j = c.args.other.now in
    let length_i = ap (λ (p : Puller). p.h) c.self.view_is in
    let length_j = ap (λ (p : Puller). p.h) c.other.view_is in
    let mass_i = ap (λ (p : Puller). p.mass) c.self.view_is in
    let mass_j = ap (λ (p : Puller). p.mass) c.other.view_is in
    let slope = c.slope-slope.ensures.value ∙ ap (slope_within c.args.r2) length_i in
    let other_slope : c.if-h.other_slope ≡ slope_within c.args.r2 j.h =
    elim c.if-h.branch [
      | then-h w ↦
          let same : i.h ≡ j.h = sym length_i ∙ sym c.h-2.ensures.value ∙ sym w.if-h.true ∙ c.h.ensures.value ∙ length_j in
          w.other_slope-is ∙ slope ∙ ap (slope_within c.args.r2) same
      | else-h w ↦ w.other_slope-is ∙ w.slope-other_slope.ensures.value ∙ ap (slope_within c.args.r2) length_j
    ] in
    rw (c.factor.ensures.value, c.factor-2.ensures.value, mass_i, mass_j) (pair_factor-is i j c.args.r2 c.slope-slope.result c.if-h.other_slope slope other_slope)
