-- The spans of a tree cover its points, wherever they have moved within the slack.
use Rattle.std.proofs.Common.{Bool, List}
use Rattle.cell_tree.specs.Laws.{CanBeMade}
use Rattle.cell_tree.specs.Tree.{Made}
use Rattle.pair_cover.specs.declared.looks.Limits.{Limits}
use Rattle.pair_cover.specs.Covering.{CoversMoved}
use Rattle.pair_cover.specs.Looks.{spans_of}
use Rattle.pair_cover.proofs.CoveredPairs.{pairs_covered}
use Rattle.pair_cover.proofs.CoveredSelves.{selves_covered}

pub spans_cover : (made : Made) (due : List Bool) (limits : Limits) → CanBeMade made → CoversMoved made due limits.slack (spans_of made due limits)
spans_cover made due limits can places moved = record { pairs = pairs_covered made due limits can places moved; selves = selves_covered made due limits can }
