use Rattle.std.proofs.Common.{rules}
use Rattle.sph_deck.proofs.Extremes.{fold_map_more}
use Rattle.sph_deck.proofs.bound.bounds_of.Goals as goal

pub loop-particle-preserved : goal.loop-particle-preserved
loop-particle-preserved c = record {
  least_mass = search (rules, fold_map_more);
  greatest_mass = search (rules, fold_map_more);
  least_h = search (rules, fold_map_more);
  greatest_h = search (rules, fold_map_more);
}
