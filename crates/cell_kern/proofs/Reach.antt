-- Two members out of reach of one another, as the test of their distance tells it.
use Rattle.std.proofs.Common.{◌≡◌, ℕ, ◌*◌, ◌<◌, ◌≤◌, max, Bool, sym, ap, ◌∙◌, arith}
use Rattle.std.proofs.lemmas.Nat.{mul-le}
use Rattle.sph_num.specs.Force.{InReach}
use Rattle.sph_num.specs.Pull.{Puller}
use Rattle.sph_num.specs.Space.{dist2}
use Rattle.sph_num.proofs.Turned.{dist2-comm}
use Rattle.cell_block.specs.declared.rows.Spot.{Spot}
use Rattle.cell_kern.specs.declared.members.Member.{Member}
use Rattle.cell_kern.specs.inner.Gathered.{IsSound, member}
use Rattle.cell_kern.specs.inner.Rooms.{IsFar}

pub record AreFar (one other : Member) : Type 0 where
  pub own : IsFar one other
  pub others : IsFar other one

pub own_far : (to from : Member) → IsFar to from → to.pull.h * to.pull.h ≤ dist2 to.spot.place from.spot.place
own_far to from far =
    let greater = mul-le to.pull.h to.pull.h (max to.pull.h from.pull.h) (max to.pull.h from.pull.h) (omega arith) (omega arith) in
    omega arith

pub far : (one other : Member) (spot : Spot) (pull : Puller) (due : Bool) (reach r2 : ℕ) → other ≡ member spot pull due → IsSound one → IsSound other → reach ≡ max one.spot.h spot.h → r2 ≡ dist2 one.spot.place spot.place → reach * reach ≤ r2 → AreFar one other
far one other spot pull due reach r2 is sound others greater distance beyond =
    let h : other.spot.h ≡ spot.h = ap (λ (m : Member). m.spot.h) is in
    let there : r2 ≡ dist2 one.spot.place other.spot.place = distance ∙ ap (λ (m : Member). dist2 one.spot.place m.spot.place) (sym is) in
    let back : r2 ≡ dist2 other.spot.place one.spot.place = there ∙ dist2-comm one.spot.place other.spot.place sound.place others.place in
    let first : reach ≡ max one.pull.h other.pull.h = omega (arith, sound.one_h, others.one_h) in
    let second : reach ≡ max other.pull.h one.pull.h = omega (arith, sound.one_h, others.one_h) in
    record {
      own = rw (← first, ← there) beyond;
      others = rw (← second, ← back) beyond;
    }

-- or one does
pub near : (one : Member) (spot : Spot) (pull : Puller) (due : Bool) (reach r2 : ℕ) → IsSound one → IsSound (member spot pull due) → reach ≡ max one.spot.h spot.h → r2 < reach * reach → InReach r2 one.pull.h pull.h
near one spot pull due reach r2 sound others greater within =
    let first : reach ≡ max one.pull.h pull.h = omega (arith, sound.one_h, others.one_h) in
    rw (← first) within
