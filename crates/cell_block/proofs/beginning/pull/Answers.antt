use Rattle.cell_block.proofs.Ranges.{sound_at}
use Rattle.cell_block.proofs.beginning.pull.Goals as goal

pub new-requires-2-clause-ghost_term : goal.new-requires-2-clause-ghost_term
new-requires-2-clause-ghost_term c = rw c.particle-particle.ensures (sound_at c.args.scene.now c.args.i c.requires.good c.requires.within).kept_ghost
