use Rattle.std.proofs.Common.{◌↔◌, Bool, true, false, not, IsTrue, refl, subst, sym, ◌∙◌}
use Rattle.std.proofs.lemmas.Bool.{eqb-true, false≢true}
use Rattle.qs_core.specs.Shape.{Touches}
use Rattle.qs_core.specs.Sound.{IsClaimed}
use Rattle.qs_play.proofs.Played.{done_is}
use Rattle.qs_play.proofs.state.State.is_done.Goals as goal
use Rattle.qs_play.proofs.state.State.is_done.Goals.{then-touches, else-touches}

-- a test that is negated
not_is : {P Q : Type 0} (r : Bool) → IsTrue r ↔ P → (P → ⊥) ↔ Q → IsTrue (not r) ↔ Q
not_is true f g = (λ t. absurd (false≢true t), λ q. absurd (g.1 q (f.0 refl)))
not_is false f g = (λ t. g.0 (λ p. false≢true (f.1 p)), λ q. refl)

pub returns-then-wait : goal.returns-then-wait
returns-then-wait c = elim c.if-touches.branch [
  | then-touches w ↦
      let m = c.args.self.now in
      let touches = subst (λ x. Touches x.shape c.args.task c.args.leaf) c.self.view_is (c.touches.ensures.0 w.if-touches.true) in
      let claimed : IsClaimed m.shape m.core c.args.task = sym w.wait.ensures ∙ eqb-true w.wait.result _ (sym w.value-is ∙ c.if-wait.true) in
      not_is c.is_left.result c.is_left.ensures (done_is m.shape m.core c.args.task c.args.leaf touches claimed)
  | else-touches w ↦ absurd (false≢true (sym w.if-touches.false ∙ sym w.value-is ∙ c.if-wait.true))
]
