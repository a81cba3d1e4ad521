-- Members and blocks that are out of reach of one another: their sums stay as they are.
use Rattle.std.proofs.Common.{◌≡◌, ℕ, ℤ, ◌<◌, Bool, true, false, List, [], length, get_or, All, fold, subst, refl, sym, ap, ◌∙◌, arith}
use Rattle.std.proofs.lemmas.List.{same_lists, get_or_default}
use Rattle.std.proofs.lemmas.List.Elements.{All-from_get_or}
use Rattle.std.proofs.lemmas.Simd.{length-zip2, get_or-zip2}
use Rattle.sph_num.specs.Pull.{Puller}
use Rattle.cell_block.specs.declared.extent.Extent.{Extent}
use Rattle.cell_block.specs.declared.rows.BlockRows.{BlockRows}
use Rattle.cell_block.specs.declared.rows.Spot.{Spot}
use Rattle.cell_block.specs.Extents.{AreApart, AreWithin, IsBeyond, IsWithin}
use Rattle.cell_kern.specs.declared.members.Member.{Member}
use Rattle.cell_kern.specs.declared.members.Members.{Members}
use Rattle.cell_kern.specs.inner.Gathered.{AreMembers, IsSound, force_given, gathered, list_of, members, no_member, rho_given}
use Rattle.cell_kern.specs.inner.Rooms.{IsFar}
use Rattle.cell_kern.specs.inner.Taking.{CanTake, Densities, Forces, IsGiven, Sums, rows_in}
use Rattle.cell_kern.proofs.Densities.{rho_kept}
use Rattle.cell_kern.proofs.Forces.{force_kept}
use Rattle.cell_kern.proofs.Lists.{length-members, member_in}
use Rattle.cell_kern.proofs.Passed.{fold_kept}
use Rattle.cell_kern.proofs.Reach.{AreFar, far}
use Rattle.cell_kern.proofs.Taken.{length-rows_in}

-- what holds of the spots in a list holds of those of the members that are made of it
module _ (P : Spot → Type 0) (spots : List Spot) (pulls : List Puller) (due : List Bool) (same_pulls : length pulls ≡ length spots) (same_due : length due ≡ length spots) where
  spot_in : (k : ℕ) (d : Spot) → k < length spots → (get_or (members spots pulls due) k no_member).spot ≡ get_or spots k d
  spot_in k d low = ap (λ (m : Member). m.spot) (member_in spots pulls due k d no_member.pull false same_pulls same_due low)

  pub All-of_spots : All P spots → All (λ (m : Member). P m.spot) (members spots pulls due)
  All-of_spots all = All-from_get_or (λ (m : Member). P m.spot) (members spots pulls due) no_member
      (λ k inside. let low : k < length spots = omega (arith, length-members spots pulls due same_pulls same_due) in
      subst P (sym (spot_in k no_member.spot low)) (all k no_member.spot low))

-- spots that are no nearer than their lengths
far_apart : (one other : Member) → IsSound one → IsSound other → IsBeyond one.spot other.spot → AreFar one other
far_apart one other sound others beyond =
    far one other other.spot other.pull other.due _ _ refl sound others refl refl beyond

-- a member in one box and a list in another
pub row_far : (one : Member) (others : Members) (point extent : Extent) → IsSound one → AreMembers others → IsWithin point one.spot → AreWithin extent others.spots.now → AreApart point extent → All (AreFar one) (list_of others)
row_far one others point extent sound are on_point on_extent apart =
    let within = All-of_spots (IsWithin extent) others.spots.now others.pulls.now others.due.now are.pulls are.due on_extent in
    λ k d inside. far_apart one (get_or (list_of others) k d) sound (are.sound k d inside) (apart one.spot (get_or (list_of others) k d).spot on_point (within k d inside))

-- two blocks whose boxes are apart
pub blocks_far : (sums : Sums) (level : ℕ) (first second : BlockRows) → CanTake sums level first → CanTake sums level second → AreApart first.extent second.extent → All (λ m. All (AreFar m) (rows_in second)) (rows_in first)
blocks_far sums level first second can others apart =
    let within_a = All-of_spots (IsWithin first.extent) first.spots.items first.pulls.items first.due.items can.pulls can.due can.extent in
    let within_b = All-of_spots (IsWithin second.extent) second.spots.items second.pulls.items second.due.items others.pulls others.due others.extent in
    λ j d inside k e low.
    let one = get_or (rows_in first) j d in
    let other = get_or (rows_in second) k e in
    far_apart one other (can.sound j d inside) (others.sound k e low) (apart one.spot other.spot (within_a j d inside) (within_b k e low))

-- a sum to which none of a list gives
pub rho_row_kept : (to : Member) (rho : ℕ) (from : List Member) → All (IsFar to) from → fold (rho_given to) rho from ≡ rho
rho_row_kept to rho from all = fold_kept (rho_given to) rho from (λ k d inside. rho_kept to rho (get_or from k d) (all k d inside))

pub force_row_kept : (to : Member) (sum : List ℤ) (from : List Member) → (to.due ≡ true → length sum ≡ 3) → All (IsFar to) from → fold (force_given to) sum from ≡ sum
force_row_kept to sum from three all = fold_kept (force_given to) sum from (λ k d inside. force_kept to sum (get_or from k d) three (all k d inside))

gathered_kept : {X : Type 0} (given : Member → X → Member → X) (to from : List Member) (sums : List X) (d : X) → length to ≡ length sums
    → ((k : ℕ) → k < length to → fold (given (get_or to k no_member)) (get_or sums k d) from ≡ get_or sums k d) → sums ≡ gathered given to from sums
gathered_kept given to from sums d same none =
    let f = λ (member : Member) (sum : _). fold (given member) sum from in
    same_lists sums (gathered given to from sums) (sym same ∙ sym (length-zip2 f to sums same))
    (λ k e low. let inside : k < length to = omega (arith, same) in
    get_or_default sums k e d low ∙ sym (none k inside) ∙ sym (get_or-zip2 f to sums k no_member d e inside low))

pub taken_apart : (sums : Sums) (level : ℕ) (block : BlockRows) (from : List Member) → CanTake sums level block → All (λ m. All (IsFar m) from) (rows_in block) → IsGiven sums block from block
taken_apart Densities level block from can all = record {
  rhos = gathered_kept rho_given (rows_in block) from block.rhos.items 0 (length-rows_in Densities level block can ∙ sym can.rhos)
      (λ k inside. rho_row_kept (get_or (rows_in block) k no_member) (get_or block.rhos.items k 0) from (all k no_member inside));
  unchanged = refl;
}
taken_apart Forces level block from can all = record {
  forces = gathered_kept force_given (rows_in block) from block.forces.items [] (length-rows_in Forces level block can ∙ sym can.forces)
      (λ k inside. force_row_kept (get_or (rows_in block) k no_member) (get_or block.forces.items k []) from (λ due. (can.room k inside due).three) (all k no_member inside));
  unchanged = refl;
}
