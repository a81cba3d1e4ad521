use Rattle.std.proofs.Common.{◌+◌, ◌<◌, ap, ◌∙◌, length, subst, sym, arith, rules}
use Rattle.std.specs.Prelude.{IfOk}
use Rattle.std.proofs.lemmas.List.{length_push}
use Rattle.std.proofs.lemmas.Result.{IfOk-at_ok}
use Rattle.std.proofs.lemmas.Iterator.Adapters.{YieldsList-from_vec}
use Rattle.std.proofs.lemmas.Iterator.Consumers.{YieldsList-end, YieldsList-turn}
use Rattle.sph_step.specs.inner.Fresh.{AreFreshIn, AreOfPart, start_of}
use Rattle.sph_step.proofs.FreshBlocks.{ranges_joined, start_past, start_rises}
use Rattle.sph_step.proofs.blocks.joined.Goals as goal

pub loop-part-preserved : goal.loop-part-preserved
loop-part-preserved c =
    let scene = c.args.scene.now in
    let made = c.args.parts.items in
    let parts = length made in
    let part = length c.loop-part.yielded in
    let leaves = length scene.leaves in
    let t = YieldsList-turn (YieldsList-from_vec made (search rules) (search rules)) c.loop-part.yielded _ c.loop-part.yielded_by _ c.next.new.self c.in-Some.part c.in-Some.is c.next.ensures.steps in
    let holds = subst (λ r. IfOk r (λ blocks. AreOfPart scene parts part blocks.items)) (sym t.1) (c.requires.parts.each part c.in-Some.part t.0) in
    let some = IfOk-at_ok (λ blocks. AreOfPart scene parts part blocks.items) c.in_ok-some.was holds in
    let positive : 0 < parts = c.requires.some in
    rw (c.in_ok-append.ensures.items, length_push c.loop-part.yielded c.in-Some.part)
    (ranges_joined scene 0 (start_of leaves parts part) (start_of leaves parts (part + 1)) c.loop-part.blocks.items c.in_ok-some.some.items (omega arith) (start_rises leaves parts part positive) c.loop-part.invariant some)

pub returns : goal.returns
returns c =
    let scene = c.args.scene.now in
    let made = c.args.parts.items in
    let leaves = length scene.leaves in
    let end = YieldsList-end (YieldsList-from_vec made (search rules) (search rules)) c.loop-part.yielded _ c.loop-part.yielded_by _ c.next.new.self c.in-None.is c.next.ensures.steps in
    subst (λ n. AreFreshIn scene 0 n c.loop-part.blocks.items) (ap (start_of leaves (length made)) end.1 ∙ start_past leaves (length made) c.requires.some) c.loop-part.invariant
