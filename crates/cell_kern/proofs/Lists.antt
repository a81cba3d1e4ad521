-- A member of a list of members is made of what stands at its index in the three lists.
use Rattle.std.proofs.Common.{◌≡◌, ℕ, ◌-◌, ◌<◌, Bool, true, false, if◌then◌else◌, List, length, get_or, drop, All, ap, ◌∙◌, arith}
use Rattle.std.specs.List.{between}
use Rattle.std.proofs.lemmas.List.Elements.{All-take, All-drop}
use Rattle.std.specs.Simd.Lanes.{zip2}
use Rattle.std.proofs.lemmas.Simd.{length-zip2, get_or-zip2}
use Rattle.sph_num.specs.Pull.{Puller}
use Rattle.cell_block.specs.declared.rows.Spot.{Spot}
use Rattle.cell_kern.specs.declared.members.Member.{Member}
use Rattle.cell_kern.specs.declared.members.Members.{Members}
use Rattle.cell_kern.specs.inner.Gathered.{AreMembers, IsSound, list_of, member, members, no_member}

pub length-members : (spots : List Spot) (pulls : List Puller) (due : List Bool) → length pulls ≡ length spots → length due ≡ length spots → length (members spots pulls due) ≡ length spots
length-members spots pulls due same_pulls same_due =
    let pairs = length-zip2 member spots pulls (omega arith) in
    length-zip2 (λ (make : Bool → Member) d. make d) (zip2 member spots pulls) due (omega arith) ∙ pairs

pub length-list_of : (m : Members) → AreMembers m → length (list_of m) ≡ length m.spots.now
length-list_of m are = length-members m.spots.now m.pulls.now m.due.now are.pulls are.due

pub member_in : (spots : List Spot) (pulls : List Puller) (dues : List Bool) (k : ℕ) (spot : Spot) (pull : Puller) (due : Bool) → length pulls ≡ length spots → length dues ≡ length spots → k < length spots
    → get_or (members spots pulls dues) k no_member ≡ member (get_or spots k spot) (get_or pulls k pull) (get_or dues k due)
member_in spots pulls dues k spot pull due same_pulls same_due low =
    let pairs = length-zip2 member spots pulls (omega arith) in
    get_or-zip2 (λ (make : Bool → Member) d. make d) (zip2 member spots pulls) dues k (member spot pull) due no_member (omega arith) (omega arith)
    ∙ ap (λ (make : Bool → Member). make (get_or dues k due)) (get_or-zip2 member spots pulls k spot pull (member spot pull) low (omega arith))

pub member_at : (m : Members) (k : ℕ) (spot : Spot) (pull : Puller) (due : Bool) → AreMembers m → k < length m.spots.now → get_or (list_of m) k no_member ≡ member (get_or m.spots.now k spot) (get_or m.pulls.now k pull) (get_or m.due.now k due)
member_at m k spot pull due are low = member_in m.spots.now m.pulls.now m.due.now k spot pull due are.pulls are.due low

pub sound_at : (m : Members) (k : ℕ) → AreMembers m → k < length m.spots.now → IsSound (get_or (list_of m) k no_member)
sound_at m k are low = are.sound k no_member (omega (arith, length-list_of m are))

-- all in a part of the list are sound, and not many
pub All-between : {X : Type 0} (P : X → Type 0) (xs : List X) (from upto : ℕ) → All P xs → All P (between from upto xs)
All-between P xs from upto all = All-take P (upto - from) (drop from xs) (All-drop P from xs all)

-- what holds of both holds of the one that is chosen
pub either : {X : Type 0} (P : X → Type 0) (b : Bool) (x y : X) → P x → P y → P (if b then x else y)
either P true x y first second = first
either P false x y first second = second
