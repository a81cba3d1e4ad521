use Rattle.std.proofs.Common.{rules}
use Rattle.cell_kick.proofs.TwoBins.{IsGoodScene-two_bins}
use Rattle.cell_kick.proofs.tests.two_bins.Goals as goal

pub returns-clause-good : goal.returns-clause-good
returns-clause-good c = IsGoodScene-two_bins _ _ _ c.args.drift (search rules) (search rules) (search rules)
