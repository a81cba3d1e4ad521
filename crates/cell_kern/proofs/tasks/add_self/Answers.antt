use Rattle.std.proofs.Common.{◌≡◌, ℕ, true, inl}
use Rattle.cell_block.specs.Scene.{is_in, is_in_second, line_at}
use Rattle.cell_block.proofs.Done.{either_true}
use Rattle.cell_block.proofs.Others.{others_of_one}
use Rattle.cell_kern.proofs.Added.{range_added}
use Rattle.cell_kern.proofs.Enter.{can_take_all, rows_few}
use Rattle.cell_kern.proofs.Marking.{keep_task}
use Rattle.cell_kern.proofs.tasks.add_self.Goals as goal

pub add_within-requires-clause-blocks : goal.add_within-requires-clause-blocks
add_within-requires-clause-blocks g c =
    let scene = c.args._scene.now in
    can_take_all g.S.BlockSums.sums scene c.args.task (line_at scene c.args.task).first c.args.blocks.now c.requires.scene c.requires.ready

pub add_within-requires-clause-few : goal.add_within-requires-clause-few
add_within-requires-clause-few g c =
    let scene = c.args._scene.now in
    rows_few scene c.args.task (line_at scene c.args.task).first c.args.blocks.now c.requires.scene c.requires.ready

pub mark_all-requires : goal.mark_all-requires
mark_all-requires g c =
    let scene = c.args._scene.now in
    let line = line_at scene c.args.task in
    keep_task g.S.BlockSums.sums scene c.args.task line.first c.args.blocks.now _ c.add_within.new.blocks c.requires.task.number
    (λ leaf at. either_true (is_in line.first leaf) (is_in_second line.second leaf) (inl at)) c.requires.ready c.add_within.ensures

pub returns : goal.returns
returns g c =
    let scene = c.args._scene.now in
    let line = line_at scene c.args.task in
    let touched = λ (leaf : ℕ) (at : is_in line.first leaf ≡ true). either_true (is_in line.first leaf) (is_in_second line.second leaf) (inl at) in
    range_added g.S.BlockSums.sums scene c.args.task line.first line.first c.args.blocks.now c.args.blocks.now c.add_within.new.blocks c.mark_all.new.blocks c.requires.scene c.requires.task c.requires.ready c.requires.ready touched touched
    (λ i at. others_of_one scene c.args.task i c.requires.scene c.requires.one_cell at) c.add_within.ensures c.mark_all.ensures
