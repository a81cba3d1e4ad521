use Rattle.qs_family.proofs.FamilyShape.{family_is}
use Rattle.qs_family.proofs.family.FamilyWork.cells.Goals as goal

pub returns-clause-laws : goal.returns-clause-laws
returns-clause-laws c = family_is c.args.self.now.has_tasks c.args.self.now.has_third
