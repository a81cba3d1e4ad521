use Rattle.std.proofs.Common.{◌≡◌, ◌∙◌, map, ap}
use Rattle.std.proofs.lemmas.Result.{IfOk-weaker}
use Rattle.cell_tree.specs.Tree.{Made, made_of}
use Rattle.sph_num.specs.declared.particle.Particle.{Particle}
use Rattle.sph_report.specs.TreeLines.{tree_of}
use Rattle.sph_report.proofs.DeckTrees.{CanBeMade-accepted, made_of-deck}
use Rattle.sph_report.proofs.tree.tree_of.Goals as goal

pub build-requires : goal.build-requires
build-requires c =
    let deck = c.args.deck.now in
    CanBeMade-accepted deck.params deck.particles c.deref.result.now c.deref-2.result.now deck.accepted
    (c.deref.ensures.value ∙ c.in_ok-points.ensures ∙ ap (map (λ (p : Particle). p.x0)) c.as_slice.ensures)
    (c.deref-2.ensures.value ∙ c.in_ok-hs.ensures ∙ ap (map (λ (p : Particle). p.h)) c.as_slice-2.ensures)

pub returns : goal.returns
returns c =
    let deck = c.args.deck.now in
    let is = made_of-deck deck c.deref.result.now c.deref-2.result.now
    (c.deref.ensures.value ∙ c.in_ok-points.ensures ∙ ap (map (λ (p : Particle). p.x0)) c.as_slice.ensures)
    (c.deref-2.ensures.value ∙ c.in_ok-hs.ensures ∙ ap (map (λ (p : Particle). p.h)) c.as_slice-2.ensures) in
    IfOk-weaker c.build.result (λ (tree : Made). tree ≡ made_of c.deref.result.now c.deref-2.result.now deck.params.leaf) (λ (tree : Made). tree ≡ tree_of deck) (λ tree made. made ∙ is) c.build.ensures.value
