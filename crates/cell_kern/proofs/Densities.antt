-- What the densities of two members are after one look at their pair.
use Rattle.std.proofs.Common.{◌≡◌, ℕ, ◌+◌, ◌-◌, ◌*◌, ◌^◌, ◌≤◌, Bool, true, false, if◌then◌else◌, List, length, All, fold, sym, refl, ap, ◌∙◌, arith}
use Rattle.std.proofs.lemmas.List.{get_or_default}
use Rattle.std.proofs.lemmas.Bool.Decides.{nat_tests}
use Rattle.sph_num.specs.Density.{density_within}
use Rattle.sph_num.specs.Pull.{Puller}
use Rattle.sph_num.specs.Ranges.{most_particles}
use Rattle.sph_num.specs.Space.{dist2}
use Rattle.sph_num.proofs.Sums.{density_within-lt, dist2_self}
use Rattle.sph_num.proofs.Turned.{dist2-comm}
use Rattle.cell_block.specs.declared.rows.Spot.{Spot}
use Rattle.cell_kern.specs.declared.members.Member.{Member}
use Rattle.cell_kern.specs.inner.Gathered.{AreBelow, IsSound, member, rho_given}
use Rattle.cell_kern.specs.inner.Rooms.{AreSums, HaveRoom, IsFar, rho_room}
use Rattle.cell_kern.proofs.Passed.{fold-le}
use Rattle.cell_kern.proofs.Reach.{own_far}

-- out of reach it gives nothing
density_within_outer : (mass r2 h : ℕ) → h * h ≤ r2 → density_within mass r2 h ≡ 0
density_within_outer mass r2 h beyond = grind (arith, nat_tests)

either_same : (due : Bool) (x y : ℕ) → x ≡ y → (if due then x else y) ≡ y
either_same true x y same = same
either_same false x y same = refl

pub rho_kept : (to : Member) (rho : ℕ) (from : Member) → IsFar to from → rho_given to rho from ≡ rho
rho_kept to rho from far =
    let none = density_within_outer from.pull.mass (dist2 to.spot.place from.spot.place) to.pull.h (own_far to from far) in
    either_same to.due (rho + density_within from.pull.mass (dist2 to.spot.place from.spot.place) to.pull.h) rho (omega arith)

-- the sum of the one, and that of the other
pub rho_of_one : (one other : Member) (spot : Spot) (pull : Puller) (due : Bool) (rho r2 new : ℕ) → other ≡ member spot pull due → r2 ≡ dist2 one.spot.place spot.place
    → new ≡ (if one.due then rho + density_within pull.mass r2 one.pull.h else rho) → new ≡ rho_given one rho other
rho_of_one one other spot pull due rho r2 new is distance given =
    given
    ∙ ap (λ (n : ℕ). if one.due then rho + density_within pull.mass n one.pull.h else rho) distance
    ∙ ap (rho_given one rho) (sym is)

pub rho_of_other : (one other : Member) (spot : Spot) (pull : Puller) (due : Bool) (rho r2 new : ℕ) → other ≡ member spot pull due → r2 ≡ dist2 one.spot.place spot.place → IsSound one → IsSound other
    → new ≡ (if due then rho + density_within one.pull.mass r2 pull.h else rho) → new ≡ rho_given other rho one
rho_of_other one other spot pull due rho r2 new is distance sound others given =
    let back : r2 ≡ dist2 other.spot.place one.spot.place = distance ∙ ap (λ (m : Member). dist2 one.spot.place m.spot.place) (sym is) ∙ dist2-comm one.spot.place other.spot.place sound.place others.place in
    given
    ∙ ap (λ (n : ℕ). if due then rho + density_within one.pull.mass n pull.h else rho) back
    ∙ ap (λ (m : Member). if m.due then rho + density_within one.pull.mass (dist2 other.spot.place one.spot.place) m.pull.h else rho) (sym is)

-- so its sum
either-le : (due : Bool) (x y n : ℕ) → x ≤ n → y ≤ n → (if due then x else y) ≤ n
either-le true x y n low other = low
either-le false x y n low other = other

rho_given-le : (to : Member) (rho : ℕ) (from : Member) → IsSound to → IsSound from → rho_given to rho from ≤ rho + (2 ^ 46 - 1)
rho_given-le to rho from sound others =
    let part = density_within-lt from.pull.mass (dist2 to.spot.place from.spot.place) to.pull.h others.mass sound.h in
    either-le to.due _ rho (rho + (2 ^ 46 - 1)) (omega arith) (omega arith)

pub rho_sum-le : (to : Member) (rho : ℕ) (from : List Member) → IsSound to → All IsSound from → fold (rho_given to) rho from ≤ rho + length from * (2 ^ 46 - 1)
rho_sum-le to rho from sound all =
    fold-le (λ (x : ℕ). x) (2 ^ 46 - 1) IsSound (rho_given to) (λ x m others. rho_given-le to x m sound others) rho from all

-- a member is at no distance of itself
pub rho_of_itself : (one : Member) (rho new : ℕ) → new ≡ (if one.due then rho + density_within one.pull.mass 0 one.pull.h else rho) → new ≡ rho_given one rho one
rho_of_itself one rho new given =
    given ∙ ap (λ (n : ℕ). if one.due then rho + density_within one.pull.mass n one.pull.h else rho) (sym (dist2_self one.spot.place))

-- densities are sums as the loops take them
pub rho_laws : AreSums rho_given rho_room
rho_laws = record {
  fewer = λ m n rho low room. omega arith;
  takes = λ n to from rho sound others room. omega (arith, rho_given-le to rho from sound others);
  kept = λ to from rho far room. rho_kept to rho from far;
}

-- and so small they have room for two lists
pub rho_has_room : (to : List Member) (rhos : List ℕ) → length rhos ≡ length to → AreBelow (3 * 2 ^ 61) to rhos → HaveRoom rho_room (2 * most_particles) to rhos
rho_has_room to rhos same below = λ k d inside due. omega (arith, get_or_default rhos k 0 d (omega (arith, same)), below k inside due)
