use Rattle.qs_core.proofs.Owned.{both_ways, other_way}
use Rattle.qs_play.proofs.seat.Seat.owns.Goals as goal

pub returns : goal.returns
returns c = both_ways c.contains.ensures (other_way (c.owned.ensures c.args.cell))
