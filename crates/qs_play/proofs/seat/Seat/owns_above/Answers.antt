use Rattle.qs_core.proofs.Below.{or_second}
use Rattle.qs_play.proofs.Just.{above_is}
use Rattle.qs_play.proofs.seat.Seat.owns_above.Goals as goal

pub returns-else-is_below_some : goal.returns-else-is_below_some
returns-else-is_below_some c =
    or_second (above_is c.args.layout.now c.args.self.now c.args.leaf c.owned-owned.result.newest c.owned-owned.result.older (record { is = c.owned-owned.ensures }))
    c.if-is_below_some.false c.is_below_some.ensures c.is_below_some-else-is_below_some.ensures
