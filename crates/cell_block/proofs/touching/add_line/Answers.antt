use Rattle.std.proofs.Common.{length, subst, sym}
use Rattle.std.proofs.lemmas.Result.{on_ok_weaker}
use Rattle.cell_block.specs.Scene.{IsOtherRange, IsRange}
use Rattle.cell_block.proofs.TaskLists.{AddsTask-one, AddsTask-two}
use Rattle.cell_block.proofs.touching.add_line.Goals as goal

pub add_range-requires-in-Some : goal.add_range-requires-in-Some
add_range-requires-in-Some c =
    let leaves = length c.args.lists.now in
    subst (λ n. IsRange n c.in-Some.second) (sym c.add_range.auto.lists) (subst (IsOtherRange leaves c.args.line.now.first) c.in-Some.is c.requires.second).0

pub returns-in-Some : goal.returns-in-Some
returns-in-Some c =
    on_ok_weaker c.add_range-in-Some.result
    (AddsTask-two c.args.line.now c.in-Some.second _ c.args.task c.args.lists.now c.add_range.new.lists c.add_range-in-Some.new.lists c.requires.second c.in-Some.is c.in_ok-add_range.ensures)
    c.add_range-in-Some.ensures

pub returns-in-None : goal.returns-in-None
returns-in-None c = AddsTask-one c.args.line.now c.args.task c.args.lists.now c.add_range.new.lists c.in-None.is c.in_ok-add_range.ensures
