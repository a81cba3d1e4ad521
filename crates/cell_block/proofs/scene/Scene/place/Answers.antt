use Rattle.cell_block.proofs.Ranges.{sound_at}
use Rattle.cell_block.proofs.scene.Scene.place.Goals as goal

pub position-requires-clause-soon : goal.position-requires-clause-soon
position-requires-clause-soon c = rw c.particle.ensures (sound_at c.args.self.now c.args.i c.requires.good c.requires.within).near.soon
