use Rattle.std.proofs.Common.{sym, subst}
use Rattle.cell_geom.specs.Gap.{KeepsGap}
use Rattle.cell_geom.proofs.Gaps.{KeepsGap-gap2_of}
use Rattle.cell_geom.proofs.gap.gap2.Goals as goal

pub returns-clause-value : goal.returns-clause-value
returns-clause-value c = cc

pub returns-clause-law : goal.returns-clause-law
returns-clause-law c =
    subst (KeepsGap c.args.a c.args.b c.args.slack) (sym (returns-clause-value c)) (KeepsGap-gap2_of c.args.a c.args.b c.args.slack)
