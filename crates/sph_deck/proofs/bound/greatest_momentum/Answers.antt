use Rattle.std.proofs.Common.{rules, ◌≡◌, ◌∙◌, max, map}
use Rattle.std.specs.Prelude.{fold, unsigned_abs}
use Rattle.sph_num.specs.declared.particle.Particle.{Particle}
use Rattle.sph_num.specs.Bound.{greatest_of}
use Rattle.sph_deck.proofs.Extremes.{greatest_momentum_folds}
use Rattle.sph_deck.proofs.bound.greatest_momentum.Goals as goal

pub returns : goal.returns
returns c =
    let folded : c.fold.result ≡ fold (λ a (p : Particle). max a (greatest_of (map unsigned_abs p.p))) 0 c.args.particles.now = search rules in
    folded ∙ greatest_momentum_folds c.args.particles.now
