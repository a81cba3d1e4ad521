use Rattle.std.proofs.Common.{◌∙◌, arith}
use Rattle.sph_num.specs.declared.kind.Kind.TheVariants.{Drift, Ghost, Kick}
use Rattle.sph_step.proofs.Applying.{one_added, one_block, one_ready}
use Rattle.sph_step.proofs.apply.apply_on_one.Goals as goal

pub bounds-blocks-0 : goal.bounds-blocks-0
bounds-blocks-0 c = omega (arith, one_block c.args.scene.now c.args.task Drift c.requires.scene c.requires.task tt (c.requires.kind ∙ c.in-Drift.is) c.args.blocks.now c.requires.ready)

pub drift-requires-clause-block : goal.drift-requires-clause-block
drift-requires-clause-block c = rw c.deref_mut.ensures.value (one_ready c.args.scene.now c.args.task Drift c.requires.scene c.requires.task tt (c.requires.kind ∙ c.in-Drift.is) c.args.blocks.now c.requires.ready c.index-blocks-0.result)

pub returns-in-Drift : goal.returns-in-Drift
returns-in-Drift c = one_added c.args.scene.now c.args.task Drift c.requires.scene c.requires.task tt (c.requires.kind ∙ c.in-Drift.is) c.args.blocks.now c.requires.ready c.index-blocks-0.result c.drift.new.block (rw c.deref_mut.ensures.value at c.drift.ensures)

pub bounds-blocks-0-in-Ghost : goal.bounds-blocks-0-in-Ghost
bounds-blocks-0-in-Ghost c = omega (arith, one_block c.args.scene.now c.args.task Ghost c.requires.scene c.requires.task tt (c.requires.kind ∙ c.in-Ghost.is) c.args.blocks.now c.requires.ready)

pub set_ghosts-requires-clause-block : goal.set_ghosts-requires-clause-block
set_ghosts-requires-clause-block c = rw c.deref_mut-in-Ghost.ensures.value (one_ready c.args.scene.now c.args.task Ghost c.requires.scene c.requires.task tt (c.requires.kind ∙ c.in-Ghost.is) c.args.blocks.now c.requires.ready c.index-blocks-0-in-Ghost.result)

pub returns-in-Ghost : goal.returns-in-Ghost
returns-in-Ghost c = one_added c.args.scene.now c.args.task Ghost c.requires.scene c.requires.task tt (c.requires.kind ∙ c.in-Ghost.is) c.args.blocks.now c.requires.ready c.index-blocks-0-in-Ghost.result c.set_ghosts.new.block (rw c.deref_mut-in-Ghost.ensures.value at c.set_ghosts.ensures)

pub bounds-blocks-0-in-Kick : goal.bounds-blocks-0-in-Kick
bounds-blocks-0-in-Kick c = omega (arith, one_block c.args.scene.now c.args.task Kick c.requires.scene c.requires.task tt (c.requires.kind ∙ c.in-Kick.is) c.args.blocks.now c.requires.ready)

pub kick-requires-clause-block : goal.kick-requires-clause-block
kick-requires-clause-block c = rw c.deref_mut-in-Kick.ensures.value (one_ready c.args.scene.now c.args.task Kick c.requires.scene c.requires.task tt (c.requires.kind ∙ c.in-Kick.is) c.args.blocks.now c.requires.ready c.index-blocks-0-in-Kick.result)

pub returns-in-Kick : goal.returns-in-Kick
returns-in-Kick c = one_added c.args.scene.now c.args.task Kick c.requires.scene c.requires.task tt (c.requires.kind ∙ c.in-Kick.is) c.args.blocks.now c.requires.ready c.index-blocks-0-in-Kick.result c.kick.new.block (rw c.deref_mut-in-Kick.ensures.value at c.kick.ensures)
