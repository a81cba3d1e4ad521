use Rattle.cell_block.specs.Scene.{line_at}
use Rattle.cell_kern.specs.Tasks.{second_of}
use Rattle.sph_step.proofs.Applying.{first_added, first_ready, line_within, second_added, second_is, second_left, second_ready}
use Rattle.sph_step.proofs.stage.StageWork.apply.Goals as goal

pub bounds-as_slice-task : goal.bounds-as_slice-task
bounds-as_slice-task c = rw c.as_slice.ensures (line_within c.self.inside.plan c.args.self.now c.self.view_is c.self.invariant c.args.task c.requires.task)

pub apply_on_one-requires-clause-task : goal.apply_on_one-requires-clause-task
apply_on_one-requires-clause-task c = line_within c.self.inside.plan c.args.self.now c.self.view_is c.self.invariant c.args.task c.requires.task

pub apply_on_one-requires-clause-ready : goal.apply_on_one-requires-clause-ready
apply_on_one-requires-clause-ready c = first_ready c.self.inside.plan c.args.self.now c.self.view_is c.self.invariant c.args.task c.requires.task c.args.first.now c.requires.first

pub apply_on_two-requires-clause-first_ready : goal.apply_on_two-requires-clause-first_ready
apply_on_two-requires-clause-first_ready c = first_ready c.self.inside.plan c.args.self.now c.self.view_is c.self.invariant c.args.task c.requires.task c.args.first.now c.requires.first

pub apply_on_two-requires-clause-second_ready : goal.apply_on_two-requires-clause-second_ready
apply_on_two-requires-clause-second_ready c =
    let line = line_at c.self.inside.plan.scene c.args.task in
    let two = second_is line c.in-Some.field-0 (rw c.as_slice.ensures at c.in-Some.is) in
    second_ready c.self.inside.plan c.args.self.now c.self.view_is c.self.invariant c.args.task c.requires.task (second_of line) two c.args.second.now c.requires.second

pub returns-in-None-clause-first : goal.returns-in-None-clause-first
returns-in-None-clause-first c =
    first_added c.self.inside.plan c.args.self.now c.self.view_is c.self.invariant c.args.task c.requires.task c.args.first.now c.requires.first c.apply_on_one.new.blocks c.apply_on_one.ensures

pub returns-in-None-clause-second : goal.returns-in-None-clause-second
returns-in-None-clause-second c =
    second_left c.self.inside.plan c.args.self.now c.self.view_is c.self.invariant c.args.task c.requires.task c.args.second.now (rw c.as_slice.ensures at c.in-None.is)

pub returns-in-Some-clause-first : goal.returns-in-Some-clause-first
returns-in-Some-clause-first c =
    first_added c.self.inside.plan c.args.self.now c.self.view_is c.self.invariant c.args.task c.requires.task c.args.first.now c.requires.first c.apply_on_two.new.first c.apply_on_two.ensures.first

pub returns-in-Some-clause-second : goal.returns-in-Some-clause-second
returns-in-Some-clause-second c =
    let line = line_at c.self.inside.plan.scene c.args.task in
    let two = second_is line c.in-Some.field-0 (rw c.as_slice.ensures at c.in-Some.is) in
    second_added c.self.inside.plan c.args.self.now c.self.view_is c.self.invariant c.args.task c.requires.task (second_of line) two c.args.second.now c.requires.second c.apply_on_two.new.second c.apply_on_two.ensures.second
