-- Once every task that touches a leaf is done there, the leaf's block has of each member what the step makes of it.
use Rattle.std.proofs.Common.{◌≡◌, ℕ, ◌<◌, ◌&&◌, Bool, true, false, if◌then◌else◌, List, length, get_or, Contains, refl, ap, sym, ◌∙◌}
use Rattle.std.specs.Prelude.{ℤ}
use Rattle.std.specs.List.{list_any}
use Rattle.std.proofs.lemmas.List.{get_or-map, length-map}
use Rattle.lists.proofs.Elements.{Contains-filter, Contains-map}
use Rattle.lists.proofs.Ranges.{Contains-numbers}
use Rattle.sph_num.specs.declared.kind.Kind.{Kind}
use Rattle.sph_num.specs.declared.kind.Kind.TheVariants.{Density, Ghost, Force, Kick}
use Rattle.sph_num.specs.declared.particle.Params.{Params}
use Rattle.sph_num.specs.declared.particle.Particle.{Particle}
use Rattle.sph_num.specs.Density.{density_of}
use Rattle.sph_num.specs.Force.{force_of}
use Rattle.sph_num.specs.Kinds.{same_kind}
use Rattle.sph_bins.specs.Bins.{is_due}
use Rattle.sph_bins.specs.Kick.{density_at, force_at, ghost_at, kicked, next_list}
use Rattle.cell_block.specs.declared.rows.BlockRows.{BlockRows}
use Rattle.cell_block.specs.declared.scene.Scene.{Scene}
use Rattle.cell_block.specs.declared.scene.TaskLine.{TaskLine}
use Rattle.cell_block.specs.Blocks.{Agrees, done_of}
use Rattle.cell_block.specs.Content.{Row, content, is_done_on, met, row_of, summed_in}
use Rattle.cell_block.specs.Reading.{member_of}
use Rattle.cell_block.specs.Scene.{IsGoodScene, due_leaves, is_due_at, leaf_line, leaf_numbers, line_at, members_of, no_particle, particle_at, place_of, touches}
use Rattle.cell_block.proofs.Done.{both_true, list_any-from_Contains, same_kind_of}
use Rattle.cell_block.proofs.LeafMembers.{leaf_of_member, member_inside}
use Rattle.cell_block.proofs.RowsHeld.{member_is}
use Rattle.cell_block.proofs.WholeSums.{densities_are_whole, forces_are_whole}
use Rattle.cell_kick.proofs.Added.{member_at}
use Rattle.cell_block.proofs.Order.{numbered, part_of, touches_own}

-- every task that touches the leaf is done
abbrev pub EachDone : Scene → ℕ → List ℕ → Type 0
EachDone scene leaf done = (task : ℕ) → task < length scene.tasks → touches (line_at scene task) leaf ≡ true → Contains done task

-- the list after the step
abbrev pub next_of : Scene → List Particle
next_of scene = next_list scene.params scene.start scene.tick

-- what the step makes of a particle
next_at : (params : Params) (list : List Particle) (t i : ℕ) → i < length list
    → get_or (next_list params list t) i no_particle ≡ (if is_due t (get_or list i no_particle).bin then kicked params t list (get_or list i no_particle) else get_or list i no_particle)
unfolding next_list
next_at params list t i inside = get_or-map (λ (p : Particle). if is_due t p.bin then kicked params t list p else p) list i no_particle no_particle inside

-- a particle with its sums, as far as a block has them
abbrev with_sums : Scene → Particle → Bool → Bool → ℕ → List ℤ → Particle
with_sums scene p kick made rho f =
    record (if kick then kicked scene.params scene.tick scene.start p else p) {
      rho = rho;
      g = if made then ghost_at scene.params scene.tick scene.start p else p.g;
      f = f;
    }

with_whole_sums : (scene : Scene) (p : Particle) (kick made : Bool) (rho : ℕ) (f : List ℤ) → kick ≡ true → made ≡ true → rho ≡ density_at scene.params scene.tick scene.start p → f ≡ force_at scene.params scene.tick scene.start p
    → with_sums scene p kick made rho f ≡ kicked scene.params scene.tick scene.start p
unfolding kicked
with_whole_sums scene p kick made rho f is_kicked is_made dense strong =
    ap (λ b. with_sums scene p b made rho f) is_kicked
    ∙ ap (λ b. with_sums scene p true b rho f) is_made
    ∙ ap (λ x. with_sums scene p true true x f) dense
    ∙ ap (λ x. with_sums scene p true true (density_at scene.params scene.tick scene.start p) x) strong

where_due : (due : Bool) (x y p : Particle) → (due ≡ true → x ≡ y) → (if due then x else p) ≡ (if due then y else p)
where_due true x y p same = same refl
where_due false x y p same = refl

module _ (scene : Scene) (good : IsGoodScene scene) (leaf : ℕ) (done : List ℕ) (all : EachDone scene leaf done) where
  -- a task on the leaf is done
  leaf_done : (kind : Kind) → Contains (part_of scene good.spans kind) (leaf_line kind leaf) → is_done_on scene kind leaf done ≡ true
  leaf_done kind stands =
      let line = numbered scene good kind (leaf_line kind leaf) stands in
      let touched : touches (line_at scene line.task) leaf ≡ true = ap (λ (l : TaskLine). touches l leaf) line.is ∙ touches_own kind leaf in
      list_any-from_Contains (λ t. same_kind (line_at scene t).kind kind && touches (line_at scene t) leaf) done line.task (all line.task line.within touched)
      (both_true (same_kind (line_at scene line.task).kind kind) (touches (line_at scene line.task) leaf) (same_kind_of (line_at scene line.task).kind kind (ap (λ (l : TaskLine). l.kind) line.is)) touched)

  -- a leaf with a due member has a ghost and a kick
  due_leaf : (i : ℕ) → Contains (members_of scene leaf) i → is_due_at scene i ≡ true → Contains (due_leaves scene) leaf
  due_leaf i at due =
      Contains-filter (λ l. list_any (is_due_at scene) (members_of scene l)) (leaf_numbers scene) leaf (list_any-from_Contains (is_due_at scene) (members_of scene leaf) i at due)
      (Contains-numbers (length scene.leaves) leaf (leaf_of_member scene leaf i at))

  due_row : (i : ℕ) → Contains (members_of scene leaf) i → is_due_at scene i ≡ true → summed_in scene leaf done i ≡ kicked scene.params scene.tick scene.start (particle_at scene i)
  due_row i at due =
      let p = particle_at scene i in
      let leaves = due_leaf i at due in
      with_whole_sums scene p (is_done_on scene Kick leaf done) (is_done_on scene Ghost leaf done) (density_of (place_of scene) (met scene Density done i) p)
      (force_of (place_of scene) (ghost_at scene.params scene.tick scene.start) (met scene Force done i) p)
      (leaf_done Kick (Contains-map (leaf_line Kick) (due_leaves scene) leaf leaves))
      (leaf_done Ghost (Contains-map (leaf_line Ghost) (due_leaves scene) leaf leaves))
      (densities_are_whole scene leaf done i good (λ task low is touched. all task low touched) at due)
      (forces_are_whole scene leaf done i good (λ task low is touched. all task low touched) at due)

  row_is_next : (i : ℕ) → Contains (members_of scene leaf) i → (row_of scene leaf done i).particle ≡ get_or (next_of scene) i no_particle
  row_is_next i at =
      let p = particle_at scene i in
      where_due (is_due_at scene i) (summed_in scene leaf done i) (kicked scene.params scene.tick scene.start p) p (λ due. due_row i at due)
      ∙ sym (next_at scene.params scene.start scene.tick i (member_inside scene leaf i good.leaves at))

-- so the block tells of a member what stands at its index after the step
pub member_is_next : (scene : Scene) (leaf : ℕ) (block : BlockRows) → IsGoodScene scene → Agrees scene leaf block → EachDone scene leaf (done_of block) → (k : ℕ) → k < length block.members.items
    → member_of block k ≡ get_or (next_of scene) (get_or block.members.items k 0) no_particle
member_is_next scene leaf block good agrees all k inside =
    let done = done_of block in
    let ms = members_of scene leaf in
    let low : k < length ms = rw (← agrees.members) inside in
    let row = row_of scene leaf done (get_or ms k 0) in
    member_is block (content scene leaf done) k row agrees.rows (rw (length-map ms (row_of scene leaf done)) low)
    ∙ ap (λ (r : Row). r.particle) (get_or-map (row_of scene leaf done) ms k 0 row low)
    ∙ row_is_next scene good leaf done all (get_or ms k 0) (member_at scene leaf k low)
    ∙ ap (λ is. get_or (next_of scene) (get_or is k 0) no_particle) (sym agrees.members)
