use Rattle.std.proofs.Common.{◌≡◌, ◌∙◌, [], ◌∷◌, ap}
use Rattle.std.proofs.lemmas.Result.{IfOk-weaker}
use Rattle.cell_block.specs.declared.rows.BlockRows.{BlockRows}
use Rattle.cell_block.specs.Blocks.{Agrees, done_of}
use Rattle.cell_block.specs.Reading.{IsWhole, tasks_of}
use Rattle.cell_block.proofs.RowsHeld.{IsWhole-from_agrees}
use Rattle.cell_kick.specs.inner.OneLeaf.{one_leaf_lines}
use Rattle.cell_kick.proofs.TwoBins.{tasks_of-one_leaf}
use Rattle.cell_kick.proofs.tests.beginning.only_block.Goals as goal

pub returns : goal.returns
returns c =
    let scene = c.args.scene.now in
    let made = λ (block : BlockRows). Agrees scene 0 block × (done_of block ≡ []) in
    record {
      whole = IfOk-weaker c.make.result made IsWhole (λ block is. IsWhole-from_agrees scene 0 block is.0) c.make.ensures;
      tasks = IfOk-weaker c.make.result made (λ block. tasks_of block ≡ 0 ∷ 1 ∷ 2 ∷ 3 ∷ []) (λ block is. tasks_of-one_leaf scene block (c.requires.tasks ∙ ap one_leaf_lines c.requires.no_drift) is.0) c.make.ensures;
    }
