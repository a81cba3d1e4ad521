use Rattle.std.proofs.Common.{◌≡◌, ℕ, true, inl, inr, ap, ◌∙◌}
use Rattle.cell_block.specs.Scene.{is_in, is_in_second, line_at}
use Rattle.cell_block.proofs.Done.{either_true}
use Rattle.cell_block.proofs.Others.{others_of_first, others_of_second}
use Rattle.cell_kern.specs.Tasks.{second_of}
use Rattle.cell_kern.proofs.Added.{range_added}
use Rattle.cell_kern.proofs.Enter.{can_take_all, rows_few}
use Rattle.cell_kern.proofs.Marking.{keep_task}
use Rattle.cell_kern.proofs.tasks.add_pair.Goals as goal

pub add_between-requires-clause-first : goal.add_between-requires-clause-first
add_between-requires-clause-first g c =
    let scene = c.args._scene.now in
    can_take_all g.S.BlockSums.sums scene c.args.task (line_at scene c.args.task).first c.args.first.now c.requires.scene c.requires.first_ready

pub add_between-requires-clause-second : goal.add_between-requires-clause-second
add_between-requires-clause-second g c =
    let scene = c.args._scene.now in
    can_take_all g.S.BlockSums.sums scene c.args.task (second_of (line_at scene c.args.task)) c.args.second.now c.requires.scene c.requires.second_ready

pub add_between-requires-clause-first_few : goal.add_between-requires-clause-first_few
add_between-requires-clause-first_few g c =
    let scene = c.args._scene.now in
    rows_few scene c.args.task (line_at scene c.args.task).first c.args.first.now c.requires.scene c.requires.first_ready

pub add_between-requires-clause-second_few : goal.add_between-requires-clause-second_few
add_between-requires-clause-second_few g c =
    let scene = c.args._scene.now in
    rows_few scene c.args.task (second_of (line_at scene c.args.task)) c.args.second.now c.requires.scene c.requires.second_ready

pub mark_all-requires : goal.mark_all-requires
mark_all-requires g c =
    let scene = c.args._scene.now in
    let line = line_at scene c.args.task in
    keep_task g.S.BlockSums.sums scene c.args.task line.first c.args.first.now _ c.add_between.new.first c.requires.task.number
    (λ leaf at. either_true (is_in line.first leaf) (is_in_second line.second leaf) (inl at)) c.requires.first_ready c.add_between.ensures.first

pub mark_all-requires-2 : goal.mark_all-requires-2
mark_all-requires-2 g c =
    let scene = c.args._scene.now in
    let line = line_at scene c.args.task in
    keep_task g.S.BlockSums.sums scene c.args.task (second_of line) c.args.second.now _ c.add_between.new.second c.requires.task.number
    (λ leaf at. either_true (is_in line.first leaf) (is_in_second line.second leaf) (inr (ap (λ o. is_in_second o leaf) c.requires.two_cells ∙ at))) c.requires.second_ready c.add_between.ensures.second

pub returns-clause-first : goal.returns-clause-first
returns-clause-first g c =
    let scene = c.args._scene.now in
    let line = line_at scene c.args.task in
    let touched = λ (leaf : ℕ) (at : is_in line.first leaf ≡ true). either_true (is_in line.first leaf) (is_in_second line.second leaf) (inl at) in
    let touched_second = λ (leaf : ℕ) (at : is_in (second_of line) leaf ≡ true). either_true (is_in line.first leaf) (is_in_second line.second leaf) (inr (ap (λ o. is_in_second o leaf) c.requires.two_cells ∙ at)) in
    range_added g.S.BlockSums.sums scene c.args.task line.first (second_of line) c.args.first.now c.args.second.now c.add_between.new.first c.mark_all.new.blocks c.requires.scene c.requires.task c.requires.first_ready c.requires.second_ready touched touched_second
    (λ i at. others_of_first scene c.args.task i (second_of line) c.requires.scene c.requires.two_cells at) c.add_between.ensures.first c.mark_all.ensures

pub returns-clause-second : goal.returns-clause-second
returns-clause-second g c =
    let scene = c.args._scene.now in
    let line = line_at scene c.args.task in
    let touched = λ (leaf : ℕ) (at : is_in line.first leaf ≡ true). either_true (is_in line.first leaf) (is_in_second line.second leaf) (inl at) in
    let touched_second = λ (leaf : ℕ) (at : is_in (second_of line) leaf ≡ true). either_true (is_in line.first leaf) (is_in_second line.second leaf) (inr (ap (λ o. is_in_second o leaf) c.requires.two_cells ∙ at)) in
    range_added g.S.BlockSums.sums scene c.args.task (second_of line) line.first c.args.second.now c.args.first.now c.add_between.new.second c.mark_all-2.new.blocks c.requires.scene c.requires.task c.requires.second_ready c.requires.first_ready touched_second touched
    (λ i at. others_of_second scene c.args.task i (second_of line) c.requires.scene c.requires.two_cells at) c.add_between.ensures.second c.mark_all-2.ensures
