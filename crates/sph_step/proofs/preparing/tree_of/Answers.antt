use Rattle.std.proofs.Common.{◌≡◌, sym, subst, ◌∙◌}
use Rattle.std.proofs.lemmas.Result.{IfOk-weaker}
use Rattle.sph_num.specs.Bound.{bounds_of}
use Rattle.cell_tree.specs.Laws.{CanBeMade}
use Rattle.cell_tree.specs.Tree.{Made, made_of}
use Rattle.sph_step.specs.Made.{made_at}
use Rattle.sph_step.proofs.Points.{can_be_made}
use Rattle.sph_step.proofs.Prepared.{made_is}
use Rattle.sph_step.proofs.preparing.tree_of.Goals as goal

pub build-requires : goal.build-requires
build-requires c =
    let deck = c.args.deck.now in
    let is = made_is deck.params c.args.t c.args.particles.now c.deref.result.now c.deref-2.result.now (c.deref.ensures.value ∙ c.in_ok-points.ensures) (c.deref-2.ensures.value ∙ c.in_ok-lengths.ensures) in
    subst CanBeMade (sym is) (can_be_made deck.params (bounds_of deck.particles) c.args.t c.args.particles.now c.requires.bounds c.requires.tick)

pub returns : goal.returns
returns c =
    let deck = c.args.deck.now in
    let is = made_is deck.params c.args.t c.args.particles.now c.deref.result.now c.deref-2.result.now (c.deref.ensures.value ∙ c.in_ok-points.ensures) (c.deref-2.ensures.value ∙ c.in_ok-lengths.ensures) in
    IfOk-weaker c.build.result (λ (tree : Made). tree ≡ made_of c.deref.result.now c.deref-2.result.now deck.params.leaf) (λ (tree : Made). tree ≡ made_at deck.params c.args.t c.args.particles.now) (λ tree made. made ∙ is) c.build.ensures.value
