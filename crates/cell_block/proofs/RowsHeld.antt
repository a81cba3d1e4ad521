-- A block that agrees with a scene has an element for each member in each list, and tells of a member what its row says.
use Rattle.std.proofs.Common.{◌≡◌, ℕ, ◌<◌, List, [], length, get_or, ap, sym, ◌∙◌}
use Rattle.std.specs.Prelude.{ℤ}
use Rattle.std.proofs.lemmas.List.{get_or-map, length-map}
use Rattle.sph_num.specs.Pull.{Puller, puller}
use Rattle.sph_num.specs.Totals.{zero_vector}
use Rattle.cell_block.specs.declared.moving.Moving.{Moving}
use Rattle.cell_block.specs.declared.rows.BlockRows.{BlockRows}
use Rattle.cell_block.specs.declared.rows.Spot.{Spot}
use Rattle.cell_block.specs.declared.scene.Scene.{Scene}
use Rattle.cell_block.specs.Blocks.{Agrees, HoldsRows, done_of, moving_of, pull_of, spot_of}
use Rattle.cell_block.specs.Content.{Row, content, row_of}
use Rattle.cell_block.specs.Reading.{IsWhole, member_of, no_moving, place_of_member, with_sums}
use Rattle.cell_block.specs.Scene.{is_due_at, members_of}

pub IsWhole-from_agrees : (scene : Scene) (leaf : ℕ) (block : BlockRows) → Agrees scene leaf block → IsWhole block
IsWhole-from_agrees scene leaf block agrees =
    let members = members_of scene leaf in
    let rows = content scene leaf (done_of block) in
    let count : length members ≡ length block.members.items = ap length (sym agrees.members) in
    let rows_count : length rows ≡ length block.members.items = length-map members (row_of scene leaf (done_of block)) ∙ count in
    record {
      spots = ap length agrees.rows.spots ∙ length-map rows spot_of ∙ rows_count;
      pulls = ap length agrees.rows.pulls ∙ length-map rows pull_of ∙ rows_count;
      due = ap length agrees.due ∙ length-map members (is_due_at scene) ∙ count;
      rhos = ap length agrees.rows.rhos ∙ length-map rows (λ (r : Row). r.particle.rho) ∙ rows_count;
      forces = ap length agrees.rows.forces ∙ length-map rows (λ (r : Row). r.particle.f) ∙ rows_count;
      moving = ap length agrees.rows.moving ∙ length-map rows (λ (r : Row). moving_of r.particle) ∙ rows_count;
    }

-- a particle from what the lists keep of it
with_its_own : (kept : Moving) (row : Row) (rho : ℕ) (pull : Puller) (f : List ℤ) → kept ≡ moving_of row.particle → rho ≡ row.particle.rho → pull ≡ pull_of row → f ≡ row.particle.f → with_sums kept rho pull.g f ≡ row.particle
with_its_own kept row rho pull f moving density puller force =
    ap (λ p. with_sums p rho pull.g f) moving
    ∙ ap (λ x. with_sums (moving_of row.particle) x pull.g f) density
    ∙ ap (λ (x : Puller). with_sums (moving_of row.particle) row.particle.rho x.g f) puller
    ∙ ap (λ x. with_sums (moving_of row.particle) row.particle.rho row.particle.g x) force

pub member_is : (block : BlockRows) (rows : List Row) (k : ℕ) (d : Row) → HoldsRows block rows → k < length rows → member_of block k ≡ (get_or rows k d).particle
member_is block rows k d holds inside =
    with_its_own (get_or block.moving.items k no_moving) (get_or rows k d) (get_or block.rhos.items k 0) (get_or block.pulls.items k (puller 0 0 0)) (get_or block.forces.items k zero_vector)
    (ap (λ (ms : List Moving). get_or ms k no_moving) holds.moving ∙ get_or-map (λ (r : Row). moving_of r.particle) rows k d no_moving inside)
    (ap (λ xs. get_or xs k 0) holds.rhos ∙ get_or-map (λ (r : Row). r.particle.rho) rows k d 0 inside)
    (ap (λ xs. get_or xs k (puller 0 0 0)) holds.pulls ∙ get_or-map pull_of rows k d (puller 0 0 0) inside)
    (ap (λ xs. get_or xs k zero_vector) holds.forces ∙ get_or-map (λ (r : Row). r.particle.f) rows k d zero_vector inside)

pub place_is : (block : BlockRows) (rows : List Row) (k : ℕ) (d : Row) → HoldsRows block rows → k < length rows → place_of_member block k ≡ (get_or rows k d).place
place_is block rows k d holds inside =
    let none : Spot = record { place = []; h = 0 } in
    ap (λ (spots : List Spot). (get_or spots k none).place) holds.spots ∙ ap (λ (s : Spot). s.place) (get_or-map spot_of rows k d none inside)
