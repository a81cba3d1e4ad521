-- What the forces on two members are after one look at their pair.
use Rattle.std.proofs.Common.{◌≡◌, ℕ, zero, suc, ◌+◌, ◌*◌, ◌^◌, ◌<◌, ◌≤◌, ℤ, pos, negsuc, Bool, true, false, if◌then◌else◌, List, [], ◌∷◌, length, get_or, All, fold, to_z, of_z, inl, inr, subst, sym, refl, ap, ◌∙◌, arith}
use Rattle.std.specs.Prelude.{◌+ℤ◌, ◌-ℤ◌, ◌*ℤ◌, unsigned_abs}
use Rattle.std.specs.Int.{int_rem_euclid, w128}
use Rattle.std.proofs.lemmas.Bool.{cases_Bool}
use Rattle.std.proofs.lemmas.List.{get_or_default}
use Rattle.std.proofs.lemmas.Int.{ints, to_z-of_z, fits_signed_from_abs, unsigned_abs-mul}
use Rattle.std.proofs.lemmas.Nat.{mul-le}
use Rattle.std.proofs.Math.IntN.{neg_ℤ, neg_ℤ-neg_ℤ, *ℤ-zero, *ℤ-negsuc}
use Rattle.std.proofs.Math.Nat.{mul_comm, add_comm, mul-zero}
use Rattle.lists.proofs.Elements.{three-eq}
use Rattle.sph_num.specs.Force.{InReach, factor_within}
use Rattle.sph_num.specs.Pull.{Puller, pair_factor}
use Rattle.sph_num.specs.Ranges.{most_particles}
use Rattle.sph_num.specs.Space.{box_side, dist2, minimal}
use Rattle.sph_num.specs.Totals.{component, vector_of}
use Rattle.sph_num.proofs.Forces.{force_factor_out_of_reach}
use Rattle.sph_num.proofs.Slopes.{factor_within-lt}
use Rattle.sph_num.proofs.Sums.{minimal_self}
use Rattle.sph_num.proofs.Turned.{dist2-comm, minimal_turned_in_reach}
use Rattle.cell_block.specs.declared.rows.Spot.{Spot}
use Rattle.cell_kern.specs.declared.members.Member.{Member}
use Rattle.cell_kern.specs.inner.Gathered.{AreNarrow, IsNarrow, IsSound, force_given, member, pull_along, pull_on, pulled}
use Rattle.cell_kern.specs.inner.Rooms.{AreSums, HasForceRoom, HaveRoom, IsFar}
use Rattle.cell_kern.proofs.Lists.{either}
use Rattle.cell_kern.proofs.Passed.{fold-le}

-- a sum and a difference that fit are computed exactly
exact : (z : ℤ) → unsigned_abs z < 2 ^ 127 → to_z w128 (of_z w128 z) ≡ z
exact z small = to_z-of_z w128 z (fits_signed_from_abs w128 z small)

pub sum_exact : (x y : ℤ) → unsigned_abs x < 2 ^ 120 → unsigned_abs y ≤ 2 ^ 95 → to_z w128 (of_z w128 (to_z w128 (of_z w128 x) +ℤ to_z w128 (of_z w128 y))) ≡ x +ℤ y
sum_exact x y small_x small_y =
    let first : to_z w128 (of_z w128 x) ≡ x = exact x (omega arith) in
    let second : to_z w128 (of_z w128 y) ≡ y = exact y (omega arith) in
    rw (first, second) (exact (x +ℤ y) (omega (arith, ints)))

pub difference_exact : (x y : ℤ) → unsigned_abs x < 2 ^ 120 → unsigned_abs y ≤ 2 ^ 95 → to_z w128 (of_z w128 (to_z w128 (of_z w128 x) -ℤ to_z w128 (of_z w128 y))) ≡ x -ℤ y
difference_exact x y small_x small_y =
    let first : to_z w128 (of_z w128 x) ≡ x = exact x (omega arith) in
    let second : to_z w128 (of_z w128 y) ≡ y = exact y (omega arith) in
    rw (first, second) (exact (x -ℤ y) (omega (arith, ints)))

-- a vector of its own components
pub vector_of_itself : (f : List ℤ) → length f ≡ 3 → vector_of (component f) ≡ f
vector_of_itself [] three = absurd (omega arith)
vector_of_itself (x ∷ []) three = absurd (omega arith)
vector_of_itself (x ∷ y ∷ []) three = absurd (omega arith)
vector_of_itself (x ∷ y ∷ z ∷ []) three = refl
vector_of_itself (x ∷ y ∷ z ∷ w ∷ more) three = absurd (omega arith)

-- the sum of the one
pub force_of_one : (one other : Member) (spot : Spot) (pull : Puller) (due : Bool) (r2 : ℕ) (sum force new : List ℤ) → other ≡ member spot pull due → r2 ≡ dist2 one.spot.place spot.place
    → force ≡ vector_of (pull_along one.pull pull r2 one.spot.place spot.place) → new ≡ (if one.due then vector_of (λ axis. component sum axis +ℤ component force axis) else sum) → new ≡ force_given one sum other
unfolding pulled
force_of_one one other spot pull due r2 sum force new is distance force_is given =
    given
    ∙ ap (λ (v : List ℤ). if one.due then vector_of (λ axis. component sum axis +ℤ component v axis) else sum) force_is
    ∙ ap (λ (n : ℕ). if one.due then vector_of (λ axis. component sum axis +ℤ pull_along one.pull pull n one.spot.place spot.place axis) else sum) distance
    ∙ ap (force_given one sum) (sym is)

-- a pair's factor is the same from both sides
factor_turned : (i j : Puller) (r2 : ℕ) → pair_factor i j r2 ≡ pair_factor j i r2
factor_turned i j r2 =
    let both = j.mass * i.mass in
    ap (λ (m : ℕ). factor_within m i.g r2 i.h + factor_within m j.g r2 j.h) (mul_comm i.mass j.mass) ∙ add_comm (factor_within both i.g r2 i.h) (factor_within both j.g r2 j.h)

times_turned : (n : ℕ) (z : ℤ) → pos n *ℤ (pos 0 -ℤ z) ≡ neg_ℤ (pos n *ℤ z)
times_turned n (pos zero) =
    let none : pos 0 -ℤ pos 0 ≡ pos 0 = omega (arith, ints) in
    ap (λ z. pos n *ℤ z) none ∙ *ℤ-zero (pos n) ∙ sym (ap neg_ℤ (*ℤ-zero (pos n)))
times_turned n (pos (suc k)) =
    let turn : pos 0 -ℤ pos (suc k) ≡ negsuc k = omega (arith, ints) in
    ap (λ z. pos n *ℤ z) turn ∙ *ℤ-negsuc (pos n) k
times_turned n (negsuc k) =
    let turn : pos 0 -ℤ negsuc k ≡ pos (suc k) = omega (arith, ints) in
    ap (λ z. pos n *ℤ z) turn ∙ sym (ap neg_ℤ (*ℤ-negsuc (pos n) k) ∙ neg_ℤ-neg_ℤ (pos n *ℤ pos (suc k)))

less_is_more : (c x y : ℤ) → y ≡ neg_ℤ x → c -ℤ x ≡ c +ℤ y
less_is_more c x y is = omega (arith, ints)

product_turned : (n : ℕ) (c z : ℤ) → c -ℤ (pos n *ℤ z) ≡ c +ℤ (pos n *ℤ (pos 0 -ℤ z))
product_turned n c z = less_is_more c (pos n *ℤ z) (pos n *ℤ (pos 0 -ℤ z)) (times_turned n z)

-- and that of the other, with the sign turned
turned : (one other : Member) (c : ℤ) (axis : ℕ) → IsSound one → IsSound other → InReach (dist2 one.spot.place other.spot.place) one.pull.h other.pull.h → c -ℤ pull_on one other axis ≡ c +ℤ pull_on other one axis
turned one other c axis sound others reach =
    let n = pair_factor one.pull other.pull (dist2 one.spot.place other.spot.place) in
    let image = minimal (get_or one.spot.place axis 0) (get_or other.spot.place axis 0) in
    let back = minimal (get_or other.spot.place axis 0) (get_or one.spot.place axis 0) in
    let same : n ≡ pair_factor other.pull one.pull (dist2 other.spot.place one.spot.place) =
    factor_turned one.pull other.pull (dist2 one.spot.place other.spot.place) ∙ ap (pair_factor other.pull one.pull) (dist2-comm one.spot.place other.spot.place sound.place others.place) in
    product_turned n c image
    ∙ ap (λ (z : ℤ). c +ℤ (pos n *ℤ z)) (sym (minimal_turned_in_reach one.spot.place other.spot.place one.pull.h other.pull.h axis sound.place others.place sound.h others.h reach))
    ∙ ap (λ (m : ℕ). c +ℤ (pos m *ℤ back)) same

pub force_of_other : (one other : Member) (spot : Spot) (pull : Puller) (due : Bool) (r2 : ℕ) (sum force new : List ℤ) → other ≡ member spot pull due → r2 ≡ dist2 one.spot.place spot.place → IsSound one → IsSound other
    → InReach (dist2 one.spot.place other.spot.place) one.pull.h other.pull.h → force ≡ vector_of (pull_along one.pull pull r2 one.spot.place spot.place)
    → new ≡ (if due then vector_of (λ axis. component sum axis -ℤ component force axis) else sum) → new ≡ force_given other sum one
unfolding pulled
force_of_other one other spot pull due r2 sum force new is distance sound others reach force_is given =
    let there = λ (axis : ℕ). ap (λ (n : ℕ). component sum axis -ℤ pull_along one.pull pull n one.spot.place spot.place axis) distance ∙ ap (λ (m : Member). component sum axis -ℤ pull_on one m axis) (sym is) ∙ turned one other (component sum axis) axis sound others reach in
    given
    ∙ ap (λ (v : List ℤ). if due then vector_of (λ axis. component sum axis -ℤ component v axis) else sum) force_is
    ∙ ap (λ (v : List ℤ). if due then v else sum) (three-eq _ _ _ _ _ _ (there 0) (there 1) (there 2))
    ∙ ap (λ (m : Member). if m.due then vector_of (λ axis. component sum axis +ℤ pull_on other one axis) else sum) (sym is)

pub none_added : (x y : ℤ) → y ≡ pos 0 → x +ℤ y ≡ x
none_added x y none = omega (arith, ints)

-- a pair that gives nothing
nothing_more : (to from : Member) (sum : List ℤ) → (to.due ≡ true → length sum ≡ 3) → ((axis : ℕ) → pull_on to from axis ≡ pos 0) → force_given to sum from ≡ sum
unfolding pulled
nothing_more to from sum three none =
    elim (cases_Bool to.due) [
      | inl due ↦
          let same = λ (axis : ℕ). none_added (component sum axis) (pull_on to from axis) (none axis) in
          rw due (three-eq _ _ _ _ _ _ (same 0) (same 1) (same 2) ∙ vector_of_itself sum (three due))
      | inr waits ↦ rw waits refl
    ]

-- out of reach
pub force_kept : (to : Member) (sum : List ℤ) (from : Member) → (to.due ≡ true → length sum ≡ 3) → IsFar to from → force_given to sum from ≡ sum
force_kept to sum from three far =
    let none = force_factor_out_of_reach to.pull.mass from.pull.mass to.pull.h from.pull.h to.pull.g from.pull.g (dist2 to.spot.place from.spot.place) far in
    nothing_more to from sum three
    (λ axis. let image = minimal (get_or to.spot.place axis 0) (get_or from.spot.place axis 0) in
    let zero_times : pos 0 *ℤ image ≡ pos 0 = omega (arith, ints) in
    ap (λ (n : ℕ). pos n *ℤ image) none ∙ zero_times)

-- from itself
pub force_of_itself : (one : Member) (sum : List ℤ) → (one.due ≡ true → length sum ≡ 3) → force_given one sum one ≡ sum
force_of_itself one sum three =
    let n = pair_factor one.pull one.pull (dist2 one.spot.place one.spot.place) in
    nothing_more one one sum three (λ axis. ap (λ (z : ℤ). pos n *ℤ z) (minimal_self (get_or one.spot.place axis 0)) ∙ ap pos (mul-zero n))

-- or where it isn't due
pub force_waits : (to : Member) (sum : List ℤ) (from : Member) → to.due ≡ false → force_given to sum from ≡ sum
force_waits to sum from waits = rw waits refl

-- how large a force gets
rem_half : (z : ℤ) → unsigned_abs (int_rem_euclid z (pos box_side) -ℤ pos (2 ^ 19)) ≤ 2 ^ 19
rem_half (pos n) = omega (arith, ints)
rem_half (negsuc n) = omega (arith, ints)

minimal-le : (a b : ℕ) → unsigned_abs (minimal a b) ≤ 2 ^ 19
minimal-le a b = rem_half ((pos a -ℤ pos b) +ℤ pos (2 ^ 19))

pub factor_image-le : (factor : ℕ) (z : ℤ) → factor < 2 ^ 76 → unsigned_abs z ≤ 2 ^ 19 → unsigned_abs (pos factor *ℤ z) ≤ 2 ^ 95
factor_image-le factor z weak near = omega (arith, unsigned_abs-mul (pos factor) z, mul-le factor (unsigned_abs z) (2 ^ 76) (2 ^ 19) (omega arith) near)

pair_factor-lt : (to from : Member) (r2 : ℕ) → IsSound to → IsSound from → pair_factor to.pull from.pull r2 < 2 ^ 76
pair_factor-lt to from r2 first second =
    let both : to.pull.mass * from.pull.mass ≤ 2 ^ 32 = mul-le to.pull.mass from.pull.mass (2 ^ 16) (2 ^ 16) first.mass.high second.mass.high in
    omega (arith, factor_within-lt (to.pull.mass * from.pull.mass) to.pull.g r2 to.pull.h both first.low_ghost first.h, factor_within-lt (to.pull.mass * from.pull.mass) from.pull.g r2 from.pull.h both second.low_ghost second.h)

pub pull_on-le : (to from : Member) (axis : ℕ) → IsSound to → IsSound from → unsigned_abs (pull_on to from axis) ≤ 2 ^ 95
pull_on-le to from axis first second =
    factor_image-le (pair_factor to.pull from.pull (dist2 to.spot.place from.spot.place)) (minimal (get_or to.spot.place axis 0) (get_or from.spot.place axis 0))
    (pair_factor-lt to from (dist2 to.spot.place from.spot.place) first second) (minimal-le (get_or to.spot.place axis 0) (get_or from.spot.place axis 0))

sum-le : (x y : ℤ) → unsigned_abs y ≤ 2 ^ 95 → unsigned_abs (x +ℤ y) ≤ unsigned_abs x + 2 ^ 95
sum-le x y small = omega (arith, ints)

pulled-le : (to from : Member) (sum : List ℤ) (axis : ℕ) → IsSound to → IsSound from → unsigned_abs (component (pulled to sum from) axis) ≤ unsigned_abs (component sum axis) + 2 ^ 95
unfolding pulled
pulled-le to from sum zero first second = sum-le (component sum 0) (pull_on to from 0) (pull_on-le to from 0 first second)
pulled-le to from sum (suc zero) first second = sum-le (component sum 1) (pull_on to from 1) (pull_on-le to from 1 first second)
pulled-le to from sum (suc (suc zero)) first second = sum-le (component sum 2) (pull_on to from 2) (pull_on-le to from 2 first second)
pulled-le to from sum (suc (suc (suc axis))) first second = omega arith

given-le : (axis : ℕ) (to : Member) (sum : List ℤ) (from : Member) → IsSound to → IsSound from → unsigned_abs (component (force_given to sum from) axis) ≤ unsigned_abs (component sum axis) + 2 ^ 95
given-le axis to sum from first second =
    either (λ f. unsigned_abs (component f axis) ≤ unsigned_abs (component sum axis) + 2 ^ 95) to.due (pulled to sum from) sum (pulled-le to from sum axis first second) (omega arith)

pulled_three : (to from : Member) (sum : List ℤ) → length (pulled to sum from) ≡ 3
unfolding pulled
pulled_three to from sum = refl

given_three : (to : Member) (sum : List ℤ) (from : Member) → length sum ≡ 3 → length (force_given to sum from) ≡ 3
given_three to sum from three =
    either (λ f. length f ≡ 3) to.due (pulled to sum from) sum (pulled_three to from sum) three

sum_three : (to : Member) (sum : List ℤ) (from : List Member) → length sum ≡ 3 → length (fold (force_given to) sum from) ≡ 3
sum_three to sum [] three = three
sum_three to sum (m ∷ ms) three = sum_three to (force_given to sum m) ms (given_three to sum m three)

-- a sum from a narrow start
pub force_sum-narrow : (to : Member) (sum : List ℤ) (from : List Member) (limit : ℕ) → IsSound to → All IsSound from → length from ≤ most_particles → IsNarrow limit sum → IsNarrow (limit + 2 ^ 110) (fold (force_given to) sum from)
force_sum-narrow to sum from limit sound all few narrow = record {
  three = sum_three to sum from narrow.three;
  small = λ axis.
      omega (arith, narrow.small axis, fold-le (λ (f : List ℤ). unsigned_abs (component f axis)) (2 ^ 95) IsSound (force_given to) (λ f m others. given-le axis to f m sound others) sum from all);
}

-- forces are sums as the loops take them
pub force_laws : AreSums force_given HasForceRoom
force_laws = record {
  fewer = λ m n force low room. record { three = room.three; small = λ axis. omega (arith, room.small axis) };
  takes = λ n to from force sound others room. record { three = given_three to force from room.three; small = λ axis. omega (arith, given-le axis to force from sound others, room.small axis) };
  kept = λ to from force far room. force_kept to force from (λ due. (room due).three) far;
}

-- and so narrow they have room for two lists
narrow_room : (force : List ℤ) → IsNarrow (3 * 2 ^ 112) force → HasForceRoom (2 * most_particles) force
narrow_room force narrow = record { three = narrow.three; small = λ axis. omega (arith, narrow.small axis) }

pub force_has_room : (to : List Member) (forces : List (List ℤ)) → length forces ≡ length to → AreNarrow (3 * 2 ^ 112) to forces → HaveRoom HasForceRoom (2 * most_particles) to forces
force_has_room to forces same narrow = λ k d inside due.
    subst (HasForceRoom (2 * most_particles)) (get_or_default forces k [] d (omega (arith, same))) (narrow_room (get_or forces k []) (narrow k inside due))
