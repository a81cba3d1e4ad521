use Rattle.std.proofs.Common.{◌↔◌, subst, sym}
use Rattle.qs_core.specs.Steps.{OwnsJust}
use Rattle.qs_play.specs.inner.Held.{AreJust}
use Rattle.qs_core.proofs.Owned.{both_ways}
use Rattle.qs_play.proofs.Just.{just_is}
use Rattle.qs_play.proofs.seat.Seat.owns_just.Goals as goal

pub returns : goal.returns
returns c =
    let just = just_is c.args.layout.now c.args.self.now c.args.task c.owned.result.newest c.owned.result.older (record { is = c.owned.ensures }) in
    both_ways c.are_cells_of.ensures
    (subst (λ t. AreJust c.owned.result.newest c.owned.result.older t.first t.second ↔ OwnsJust c.args.layout.now c.args.self.now c.args.task) (sym c.task.ensures) just)
