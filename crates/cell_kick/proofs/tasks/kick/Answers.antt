use Rattle.std.proofs.Common.{length, refl, subst, sym, ap, ◌∙◌, arith}
use Rattle.lists.proofs.Elements.{written_back}
use Rattle.sph_num.specs.declared.kind.Kind.TheVariants.{Kick}
use Rattle.cell_kick.specs.declared.members.Summed.{Summed}
use Rattle.cell_block.proofs.Added.{keeps_task}
use Rattle.cell_kick.specs.inner.Written.{AreEach, kick_at}
use Rattle.cell_kick.proofs.Kicks.{can_kick, kick_added}
use Rattle.cell_kick.proofs.Added.{leaf_of, touches_its_leaf}
use Rattle.cell_kick.proofs.tasks.kick.Goals as goal

pub kick_members-requires-clause-ready : goal.kick_members-requires-clause-ready
kick_members-requires-clause-ready c =
    rw c.as_mut_slice.ensures.value
    (can_kick c.args.scene.now c.args.task c.args.block.now _ c.requires.scene c.requires.task c.requires.block (record { spots = c.as_slice.ensures.value; due = c.as_slice-2.ensures.value; forces = c.as_slice-3.ensures.value }))

pub mark-requires : goal.mark-requires
mark-requires c =
    let scene = c.args.scene.now in
    keeps_task scene c.args.task (leaf_of scene c.args.task) c.args.block.now c.requires.task.number (touches_its_leaf scene Kick c.args.task tt c.requires.scene c.requires.task) c.requires.block.agrees

pub returns : goal.returns
returns c =
    let block = c.args.block.now in
    let summed : Summed = record { spots = c.as_slice.result; due = c.as_slice-2.result; forces = c.as_slice-3.result } in
    let made = kick_at c.args.scene.now summed in
    let back = written_back block.moving.len block.moving.items c.kick_members.new.moving (omega (arith, block.moving.ok.0)) (c.kick_members.auto.moving ∙ ap length c.as_mut_slice.ensures.value) in
    let written : AreEach made block.moving.items c.kick_members.new.moving = rw c.as_mut_slice.ensures.value at c.kick_members.ensures in
    kick_added c.args.scene.now c.args.task block _ c.mark.new.self summed c.requires.scene c.requires.task c.requires.block
    (record { spots = c.as_slice.ensures.value; due = c.as_slice-2.ensures.value; forces = c.as_slice-3.ensures.value }) (subst (AreEach made block.moving.items) (sym back) written) refl
    c.mark.ensures
