use Rattle.std.proofs.Common.{ap, sym, ◌∙◌}
use Rattle.qs_table.specs.Seats.{TokenView}
use Rattle.qs_table.proofs.seat.QsSeat.shows_none_out.Goals as goal

pub returns : goal.returns
returns g c =
    let same = ap (λ (t : TokenView _). t.view.holds) c.self.view_is in
    sym (ap (λ h. h.out) same) ∙ c.self.invariant.home (ap (λ h. h.chains) same ∙ c.requires)
