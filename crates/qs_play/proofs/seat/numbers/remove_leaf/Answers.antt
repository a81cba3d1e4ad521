use Rattle.std.proofs.Common.{not, eqb, rules}
use Rattle.std.proofs.lemmas.Fn.{filter_same}
use Rattle.qs_play.proofs.seat.numbers.remove_leaf.Goals as goal

pub returns : goal.returns
returns c = filter_same _ (λ y. not (eqb y c.args.leaf)) _ (λ x b f' k. search rules) _ _ c.retain.ensures.filtered
