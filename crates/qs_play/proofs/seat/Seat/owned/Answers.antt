use Rattle.std.proofs.Common.{◌≡◌, [], ◌∷◌, sym, ap, ◌∙◌}
use Rattle.qs_play.specs.inner.Held.{chains_of}
use Rattle.qs_play.proofs.Owning.{owned_one, owned_two}
use Rattle.qs_play.proofs.seat.Seat.owned.Goals as goal

pub returns-in-One : goal.returns-in-One
returns-in-One c =
    let e : c.args.self.now.chains ≡ c.in-One.newest ∷ [] = ap (λ v. v.chains) (sym c.self.view_is) ∙ ap chains_of c.in-One.is in
    owned_one c.args.layout.now c.args.self.now c.in-One.newest c.owned.result e c.owned.ensures

pub returns-in-Two : goal.returns-in-Two
returns-in-Two c =
    let e : c.args.self.now.chains ≡ c.in-Two.newest ∷ c.in-Two.older ∷ [] = ap (λ v. v.chains) (sym c.self.view_is) ∙ ap chains_of c.in-Two.is in
    owned_two c.args.layout.now c.args.self.now c.in-Two.newest c.in-Two.older c.owned-in-Two.result c.owned-in-Two-2.result e c.owned-in-Two.ensures c.owned-in-Two-2.ensures
