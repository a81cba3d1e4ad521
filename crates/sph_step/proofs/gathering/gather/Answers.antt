use Rattle.std.proofs.Common.{◌≡◌, ◌<◌, All, [], ap, length, subst, sym, arith}
use Rattle.std.specs.List.Sorted.{IsStrictlyIncreasing}
use Rattle.cell_block.specs.declared.scene.Scene.{Scene}
use Rattle.cell_block.proofs.RowsHeld.{IsWhole-from_agrees}
use Rattle.cell_kick.proofs.Added.{members_inside}
use Rattle.sph_step.proofs.Gathered.{AreNext, all_next, done_block, next_leaf, none_next}
use Rattle.sph_step.proofs.gathering.gather.Goals as goal

pub loop-leaf-init : goal.loop-leaf-init
loop-leaf-init c = none_next c.args.stage.now.scene c.args.particles.now c.requires.start

pub index-requires : goal.index-requires
index-requires c =
    omega (arith, c.loop-leaf-test.true, c.len-leaf-end.ensures, ap (λ (s : Scene). length s.leaves) c.scene-scene.ensures.value, c.requires.blocks.fitting.one_each)

pub put_members-requires : goal.put_members-requires
put_members-requires c =
    let plan = c.args.stage.now in
    let leaf = c.loop-leaf.leaf in
    let block = c.index.result.now in
    let kept = c.scene-scene.ensures.kept in
    let inside : leaf < length plan.scene.leaves = omega (arith, c.loop-leaf-test.true, c.len-leaf-end.ensures, ap (λ (s : Scene). length s.leaves) c.scene-scene.ensures.value) in
    let is = done_block plan c.args.blocks.items leaf block kept c.requires.blocks inside c.index.ensures in
    rw c.deref.ensures
    (record {
      whole = IsWhole-from_agrees plan.scene leaf block is.agrees;
      rising = subst IsStrictlyIncreasing (sym is.agrees.members) (kept.scene.leaves.rising leaf [] inside);
      within = subst (λ n. All (λ i. i < n) block.members.items) (sym c.loop-leaf.invariant.same_length) (members_inside plan.scene leaf block kept.scene is.agrees);
    })

pub loop-leaf-preserved : goal.loop-leaf-preserved
loop-leaf-preserved c =
    let plan = c.args.stage.now in
    let leaf = c.loop-leaf.leaf in
    let block = c.index.result.now in
    let kept = c.scene-scene.ensures.kept in
    let inside : leaf < length plan.scene.leaves = omega (arith, c.loop-leaf-test.true, c.len-leaf-end.ensures, ap (λ (s : Scene). length s.leaves) c.scene-scene.ensures.value) in
    let is = done_block plan c.args.blocks.items leaf block kept c.requires.blocks inside c.index.ensures in
    next_leaf plan.scene leaf block c.loop-leaf.particles c.put_members.new.particles kept.scene is (rw c.deref.ensures at c.put_members.ensures) c.loop-leaf.invariant

pub returns : goal.returns
returns c =
    let scene = c.args.stage.now.scene in
    let all : c.loop-leaf.leaf ≡ length scene.leaves =
    omega (arith, c.loop-leaf-test.false, c.loop-leaf.auto.leaf-end, c.len-leaf-end.ensures, ap (λ (s : Scene). length s.leaves) c.scene-scene.ensures.value) in
    all_next scene c.loop-leaf.particles c.scene-scene.ensures.kept.scene.leaves (subst (λ n. AreNext scene n c.loop-leaf.particles) all c.loop-leaf.invariant)
