use Rattle.std.proofs.Common.{◌∙◌, [], ap, map, refl, rules, subst}
use Rattle.cell_block.specs.Extents.{AreWithin}
use Rattle.cell_block.specs.Scene.{is_due_at, members_of}
use Rattle.cell_block.specs.inner.Beginning.{first_force, first_moving, first_pull, first_rho, first_spot, not_done}
use Rattle.cell_block.proofs.FirstRows.{begins, first_places}
use Rattle.cell_block.proofs.rows.BlockRows.with_tasks.Goals as goal

pub of-extent-requires : goal.of-extent-requires
of-extent-requires c =
    let scene = c.args.scene.now in
    rw (c.deref-2.ensures.value, c.in_ok-spots.ensures (first_spot scene) (λ i x given. search rules), c.deref.ensures.value, c.in_ok-members.ensures)
    (first_places scene (members_of scene c.args.leaf) c.requires.scene (c.requires.scene.leaves.members c.args.leaf [] c.requires.leaf))

pub returns : goal.returns
returns c =
    let scene = c.args.scene.now in
    begins scene c.args.leaf _ refl c.in_ok-members.ensures (c.in_ok-marks.ensures ∙ ap (map not_done) c.requires.tasks)
    (c.in_ok-spots.ensures (first_spot scene) (λ i x given. search rules) ∙ ap (map (first_spot scene)) c.deref.ensures.value)
    (c.in_ok-each.ensures (first_pull scene) (λ i x given. search rules) ∙ ap (map (first_pull scene)) c.deref-3.ensures.value)
    (c.in_ok-each-2.ensures (is_due_at scene) (λ i x given. search rules) ∙ ap (map (is_due_at scene)) c.deref-4.ensures.value)
    (c.in_ok-each-3.ensures (first_rho scene) (λ i x given. search rules) ∙ ap (map (first_rho scene)) c.deref-5.ensures.value)
    (c.in_ok-each-4.ensures (first_force scene) (λ i x given. search rules) ∙ ap (map (first_force scene)) c.deref-6.ensures.value)
    (c.in_ok-each-5.ensures (first_moving scene) (λ i x given. search rules) ∙ ap (map (first_moving scene)) c.deref-7.ensures.value)
    (subst (AreWithin c.of-extent.result) c.deref-2.ensures.value c.of-extent.ensures)
