use Rattle.qs_family.proofs.FamilyMarks.{marked_0, marked_1}
use Rattle.qs_family.proofs.family.Marks.mark.Goals as goal

pub returns-in-0 : goal.returns-in-0
returns-in-0 c = marked_0 c.args.self.now.zeroth c.args.self.now.first c.args.self.now.second c.args.task c.in-0.is

pub returns-in-1 : goal.returns-in-1
returns-in-1 c = marked_1 c.args.self.now.zeroth c.args.self.now.first c.args.self.now.second c.args.task c.in-1.is
