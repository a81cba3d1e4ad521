use Rattle.sph_step.proofs.Applying.{no_second, of_leaves}
use Rattle.sph_step.proofs.apply.apply_on_two.Goals as goal

pub unreachable-requires : goal.unreachable-requires
unreachable-requires c =
    no_second c.args.scene.now c.args.task c.args.kind c.requires.scene c.requires.task (of_leaves c.args.kind c.in_default.not-Density c.in_default.not-Force) c.requires.kind _ c.requires.two_cells
