use Rattle.std.proofs.Common.{◌≡◌, ◌⊎◌, ◌↔◌, ℕ, Contains, subst, arith}
use Rattle.qs_family.specs.declared.family.Marks.{Marks}
use Rattle.qs_core.specs.Blocks.{first_leaves, second_leaves}
use Rattle.qs_family.specs.Family.{done_by, family}
use Rattle.qs_family.proofs.FamilyShape.{leaves_of_first, leaves_of_second, one_added}
use Rattle.qs_family.proofs.family.FamilyWork.apply.Goals as goal

pub returns-in-Some-clause-first : goal.returns-in-Some-clause-first
returns-in-Some-clause-first c =
    let shape = family c.args.self.now.has_tasks c.args.self.now.has_third in
    let one = leaves_of_first c.args.self.now.has_tasks c.args.self.now.has_third c.args.task c.requires.task in
    let each = c.requires.first.one_each in
    one_added {B = Marks} shape _ _ c.args.task (first_leaves shape c.args.task) (λ leaf b. tt) c.args.first.now _ c.mark.new.self (omega arith) (omega arith) each c.mark.ensures

pub returns-in-Some-clause-second : goal.returns-in-Some-clause-second
returns-in-Some-clause-second c =
    let shape = family c.args.self.now.has_tasks c.args.self.now.has_third in
    let few = leaves_of_second c.args.self.now.has_tasks c.args.self.now.has_third c.args.task c.requires.task in
    let item = c.in-Some.ensures.item in
    let some = item.3.0 in
    one_added {B = Marks} shape _ _ c.args.task (second_leaves shape c.args.task) (λ leaf b. tt) c.args.second.now c.in-Some.marks.now c.mark-in-Some.new.self few some
    c.requires.second.one_each
    (subst (λ (m : Marks). (t : ℕ) → Contains (done_by c.mark-in-Some.new.self.zeroth c.mark-in-Some.new.self.first c.mark-in-Some.new.self.second) t
    ↔ (Contains (done_by m.zeroth m.first m.second) t ⊎ (t ≡ c.args.task))) item.1 c.mark-in-Some.ensures)

pub returns-in_default-clause-first : goal.returns-in_default-clause-first
returns-in_default-clause-first c =
    let shape = family c.args.self.now.has_tasks c.args.self.now.has_third in
    let one = leaves_of_first c.args.self.now.has_tasks c.args.self.now.has_third c.args.task c.requires.task in
    let each = c.requires.first.one_each in
    one_added {B = Marks} shape _ _ c.args.task (first_leaves shape c.args.task) (λ leaf b. tt) c.args.first.now _ c.mark.new.self (omega arith) (omega arith) each c.mark.ensures
