-- What the place, the pull and the due test of a particle ask, of each particle of a good scene.
use Rattle.std.proofs.Common.{ℕ, ◌<◌, length}
use Rattle.sph_bins.proofs.Sound.{IsSound, sound}
use Rattle.cell_block.specs.declared.scene.Scene.{Scene}
use Rattle.cell_block.specs.Scene.{IsGoodScene, particle_at}

pub sound_at : (scene : Scene) (i : ℕ) → IsGoodScene scene → i < length scene.start → IsSound scene.tick (particle_at scene i)
sound_at scene i good inside = sound scene.params scene.bounds scene.tick scene.start good.in_bounds i _ inside
