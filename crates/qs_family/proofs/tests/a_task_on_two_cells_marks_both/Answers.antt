use Rattle.std.proofs.Common.{ap}
use Rattle.qs_family.specs.declared.family.Marks.{Marks}
use Rattle.qs_family.specs.Family.{done_by}
use Rattle.qs_family.proofs.FamilyShape.{both_before, none_before}
use Rattle.qs_family.proofs.tests.a_task_on_two_cells_marks_both.Goals as goal

pub apply-requires-clause-first : goal.apply-requires-clause-first
apply-requires-clause-first g c = both_before {B = Marks} _ _ c.of.result (λ leaf b. tt) (ap (λ (m : Marks). done_by m.zeroth m.first m.second) c.of.ensures)

pub apply-requires-clause-second : goal.apply-requires-clause-second
apply-requires-clause-second g c = none_before {B = Marks} _ _ c.of-2.result (λ leaf b. tt) (ap (λ (m : Marks). done_by m.zeroth m.first m.second) c.of-2.ensures)
