-- A step keeps a list in bounds and its momenta narrow, where its forces and ghosts are within theirs.
use Rattle.std.proofs.Common.{◌≡◌, ℕ, zero, suc, ◌+◌, ◌-◌, ◌*◌, ◌^◌, ◌<◌, ◌≤◌, true, false, cond, List, length, inl, inr, sym, ◌∙◌, arith}
use Rattle.std.specs.Prelude.{ℤ, unsigned_abs}
use Rattle.std.specs.List.{All, Contains}
use Rattle.std.proofs.lemmas.Bool.{cond_both, cases_eq, ne_eqb, false≢true}
use Rattle.std.proofs.lemmas.List.{length-map}
use Rattle.std.proofs.lemmas.List.Elements.{All-map, All-weaker, All-contains, All-contains_itself}
use Rattle.std.proofs.lemmas.Nat.{pow_pos}
use Rattle.std.proofs.Math.Nat.{mod_self, zero-mod}
use Rattle.sph_num.specs.declared.particle.Bounds.{Bounds}
use Rattle.sph_num.specs.declared.particle.Params.{Params}
use Rattle.sph_num.specs.declared.particle.Particle.{Particle}
use Rattle.sph_num.specs.Bound.{greatest_size, greatest_ghost, greatest_force}
use Rattle.sph_num.specs.Motion.{IsMomentum, pushed}
use Rattle.sph_num.specs.Totals.{component}
use Rattle.sph_num.proofs.Drifts.{IsPlace-position_of}
use Rattle.sph_bins.specs.Bins.{IsDue, is_due, bin_of, IsStepTick}
use Rattle.sph_bins.specs.InBounds.{IsWithin, HasRoom, IsInStep, IsAt, InBounds}
use Rattle.sph_bins.specs.Kick.{ghost_at, force_at, momentum_at, kicked, next_list}
use Rattle.sph_bins.specs.Laws.{StepsKeepBounds}
use Rattle.sph_bins.proofs.BinOf.{IsDue-from_true, true_from_IsDue, bin_of-low, bin_of-high, bin_of-due}
use Rattle.sph_bins.proofs.Room.{pow-le, multiples_apart, multiple_add, multiple_of_less, unsigned_abs-push, room_left}

-- what a step from a list in bounds needs of its forces and ghosts
abbrev pub ForcesAreLow : Type 0
ForcesAreLow =
    (params : Params) (bounds : Bounds) (t : ℕ) (list : List Particle) (i : Particle)
    → InBounds params bounds t list → IsStepTick params t → Contains list i → (axis : ℕ) → unsigned_abs (component (force_at params t list i) axis) ≤ greatest_force params.sound bounds

abbrev pub GhostsAreLow : Type 0
GhostsAreLow =
    (params : Params) (bounds : Bounds) (t : ℕ) (list : List Particle) (i : Particle)
    → InBounds params bounds t list → IsStepTick params t → Contains list i → ghost_at params t list i ≤ greatest_ghost params.sound bounds

-- a component after a push
pushed-le : (p f : List ℤ) (n axis : ℕ) → unsigned_abs (component (pushed p f n) axis) ≤ unsigned_abs (component p axis) + unsigned_abs (component f axis) * n
pushed-le p f n zero = unsigned_abs-push (component p 0) (component f 0) n
pushed-le p f n (suc zero) = unsigned_abs-push (component p 1) (component f 1) n
pushed-le p f n (suc (suc zero)) = unsigned_abs-push (component p 2) (component f 2) n
pushed-le p f n (suc (suc (suc axis))) = omega arith

-- the ticks of the step that ends at t, of which tick 0 has none
abbrev ended : ℕ → Particle → ℕ
ended zero i = 0
ended (suc t) i = 2 ^ i.bin

momentum_at-le : (t : ℕ) (i : Particle) (f : List ℤ) (axis : ℕ) → unsigned_abs (component (momentum_at t i f) axis) ≤ unsigned_abs (component i.p axis) + unsigned_abs (component f axis) * ended t i
momentum_at-le zero i f axis = omega arith
momentum_at-le (suc t) i f axis = rw (ne_eqb (suc t) 0 (λ e. omega arith)) (pushed-le i.p f (2 ^ i.bin) axis)

-- the room of a due particle, from the middle of the step that ends at t
room_at : (params : Params) (bounds : Bounds) (t : ℕ) (i : Particle) → t ≤ params.ticks → IsWithin params bounds i → IsAt params bounds t i → IsDue t i.bin → HasRoom params bounds (2 * (params.ticks - t) + 2 ^ params.bin_max + ended t i) i
room_at params bounds zero i early within at due =
    let e : 2 * (params.ticks - 0) + 2 ^ params.bin_max + 0 ≡ 2 * params.ticks + 2 ^ params.bin_max = omega arith in
    λ axis. rw e (at.room axis)
room_at params bounds (suc t) i early within at due =
    let apart = multiples_apart (2 ^ i.bin) i.t0 (suc t) at.began due at.since in
    let small = pow-le i.bin params.bin_max within.bin in
    let e : 2 * (params.ticks - suc t) + 2 ^ params.bin_max + 2 ^ i.bin ≡ 2 * (params.ticks - i.t0) + 2 ^ params.bin_max - 2 ^ i.bin = omega (arith, at.until) in
    λ axis. rw e (at.room axis)

-- a force of so much on each axis
abbrev pub IsForce : Params → Bounds → List ℤ → Type 0
IsForce params bounds f = (axis : ℕ) → unsigned_abs (component f axis) ≤ greatest_force params.sound bounds

-- the momentum at the tick, and the one after the kick with the room that the new step leaves
momentum_at-lt : (params : Params) (bounds : Bounds) (t : ℕ) (i : Particle) (f : List ℤ) → t ≤ params.ticks → IsWithin params bounds i → IsAt params bounds t i → IsDue t i.bin → IsForce params bounds f → IsMomentum (momentum_at t i f)
momentum_at-lt params bounds t i f early within at due weak axis =
    let rest = 2 * (params.ticks - t) + 2 ^ params.bin_max in
    let left : unsigned_abs (component (momentum_at t i f) axis) + greatest_force params.sound bounds * rest < 2 ^ 96 =
    room_left (unsigned_abs (component i.p axis)) (unsigned_abs (component f axis)) (greatest_force params.sound bounds) (ended t i) 0 rest (rest + ended t i)
    (unsigned_abs (component (momentum_at t i f) axis)) (2 ^ 96) (omega (arith, momentum_at-le t i f axis)) (weak axis) (omega arith) (room_at params bounds t i early within at due axis) in
    omega arith

room_after_kick : (params : Params) (bounds : Bounds) (t : ℕ) (i : Particle) (f : List ℤ) (bin axis : ℕ) → t ≤ params.ticks → IsWithin params bounds i → IsAt params bounds t i → IsDue t i.bin → IsForce params bounds f → bin ≤ params.bin_max → unsigned_abs (component (pushed (momentum_at t i f) f (2 ^ bin)) axis) + greatest_force params.sound bounds * (2 * (params.ticks - t) + 2 ^ params.bin_max - 2 ^ bin) < 2 ^ 96
room_after_kick params bounds t i f bin axis early within at due weak high =
    let rest = 2 * (params.ticks - t) + 2 ^ params.bin_max - 2 ^ bin in
    let room = 2 * (params.ticks - t) + 2 ^ params.bin_max + ended t i in
    let split : rest + 2 ^ bin + ended t i ≡ room = omega (arith, pow-le bin params.bin_max high) in
    room_left (unsigned_abs (component i.p axis)) (unsigned_abs (component f axis)) (greatest_force params.sound bounds) (ended t i) (2 ^ bin) rest room
    (unsigned_abs (component (pushed (momentum_at t i f) f (2 ^ bin)) axis)) (2 ^ 96)
    (omega (arith, pushed-le (momentum_at t i f) f (2 ^ bin) axis, momentum_at-le t i f axis)) (weak axis) split (room_at params bounds t i early within at due axis)

-- what the kick of a due particle leaves
IsMomentum-kicked_p : (params : Params) (bounds : Bounds) (t : ℕ) (list : List Particle) (i : Particle) → params.bin_min ≤ params.bin_max → IsStepTick params t → IsWithin params bounds i → IsAt params bounds t i → IsDue t i.bin → IsForce params bounds (force_at params t list i) → IsMomentum (kicked params t list i).p
unfolding kicked
IsMomentum-kicked_p params bounds t list i bins tick within at due weak axis =
    let f = force_at params t list i in
    let bin = bin_of params t (greatest_size f) i.mass i.h in
    let high = bin_of-high params t (greatest_size f) i.mass i.h bins tick.due in
    let left = room_after_kick params bounds t i f bin axis tick.within within at due weak high in
    omega (arith, left)

IsMomentum-kicked_q : (params : Params) (bounds : Bounds) (t : ℕ) (list : List Particle) (i : Particle) → IsStepTick params t → IsWithin params bounds i → IsAt params bounds t i → IsDue t i.bin → IsForce params bounds (force_at params t list i) → IsMomentum (kicked params t list i).q
unfolding kicked
IsMomentum-kicked_q params bounds t list i tick within at due weak =
    momentum_at-lt params bounds t i (force_at params t list i) tick.within within at due weak

pub IsWithin-kicked : (params : Params) (bounds : Bounds) (t : ℕ) (list : List Particle) (i : Particle) → params.bin_min ≤ params.bin_max → IsStepTick params t → IsWithin params bounds i → ghost_at params t list i ≤ greatest_ghost params.sound bounds → IsWithin params bounds (kicked params t list i)
unfolding kicked
IsWithin-kicked params bounds t list i bins tick within light =
    record {
      mass_low = within.mass_low;
      mass_high = within.mass_high;
      h_low = within.h_low;
      h_high = within.h_high;
      place = IsPlace-position_of params.shift t i;
      ghost_term = light;
      bin = bin_of-high params t (greatest_size (force_at params t list i)) i.mass i.h bins tick.due;
    }

pub IsInStep-kicked : (params : Params) (bounds : Bounds) (t : ℕ) (list : List Particle) (i : Particle) → params.bin_min ≤ params.bin_max → IsStepTick params t → IsWithin params bounds i → IsAt params bounds t i → IsDue t i.bin → IsForce params bounds (force_at params t list i) → IsInStep params bounds (t + 2 ^ params.bin_min) (kicked params t list i)
unfolding kicked
IsInStep-kicked params bounds t list i bins tick within at due weak =
    let f = force_at params t list i in
    let bin = bin_of params t (greatest_size f) i.mass i.h in
    let low = bin_of-low params t (greatest_size f) i.mass i.h bins tick.due in
    let high = bin_of-high params t (greatest_size f) i.mass i.h bins tick.due in
    let longer = pow-le params.bin_min bin low in
    record {
      bin = low;
      began = bin_of-due params t (greatest_size f) i.mass i.h bins tick.due;
      since = omega (arith, pow_pos params.bin_min);
      until = omega (arith, longer);
      room = λ axis. room_after_kick params bounds t i f bin axis tick.within within at due weak high;
    }

-- the end of a step is due, so a particle that waits is before it
end_is_due : (t0 bin : ℕ) → IsDue t0 bin → IsDue (t0 + 2 ^ bin) bin
end_is_due t0 bin began = multiple_add (2 ^ bin) t0 (2 ^ bin) began (mod_self (2 ^ bin))

before_its_end : (t t0 bin : ℕ) → IsDue t0 bin → t ≤ t0 + 2 ^ bin → is_due t bin ≡ false → t < t0 + 2 ^ bin
before_its_end t t0 bin began until waits =
    elim (cases_eq t (t0 + 2 ^ bin)) [
      | inl e ↦ absurd (false≢true (sym waits ∙ true_from_IsDue t bin (rw e (end_is_due t0 bin began))))
      | inr differs ↦ omega arith
    ]

-- a particle that isn't due stays in its step
pub IsInStep-kept : (params : Params) (bounds : Bounds) (t : ℕ) (i : Particle) → IsStepTick params t → IsAt params bounds t i → is_due t i.bin ≡ false → IsInStep params bounds (t + 2 ^ params.bin_min) i
IsInStep-kept params bounds zero i tick at waits = absurd (false≢true (sym waits ∙ true_from_IsDue 0 i.bin (zero-mod (2 ^ i.bin))))
IsInStep-kept params bounds (suc t) i tick at waits =
    let before_end : suc t < i.t0 + 2 ^ i.bin = before_its_end (suc t) i.t0 i.bin at.began at.until waits in
    let end : IsDue (i.t0 + 2 ^ i.bin) params.bin_min = multiple_of_less params.bin_min i.bin (i.t0 + 2 ^ i.bin) at.bin (end_is_due i.t0 i.bin at.began) in
    record {
      bin = at.bin;
      began = at.began;
      since = omega (arith, at.since);
      until = multiples_apart (2 ^ params.bin_min) (suc t) (i.t0 + 2 ^ i.bin) tick.due end before_end;
      room = at.room;
    }

-- a later tick isn't the start
pub IsAt-later : (params : Params) (bounds : Bounds) (t : ℕ) (i : Particle) → 0 < t → IsInStep params bounds t i → IsAt params bounds t i
IsAt-later params bounds zero i later is = absurd (omega arith)
IsAt-later params bounds (suc t) i later is = is

-- what the step leaves of each particle of the list holds of the list after it
pub All-next_list : (params : Params) (list : List Particle) (t : ℕ) (P : Particle → Type 0) → ((i : Particle) → Contains list i → is_due t i.bin ≡ true → P (kicked params t list i)) → ((i : Particle) → Contains list i → is_due t i.bin ≡ false → P i) → All P (next_list params list t)
unfolding next_list
All-next_list params list t P due waits =
    All-map P (λ (i : Particle). cond (is_due t i.bin) (kicked params t list i) i) list
    (All-weaker (Contains list) (λ i. P (cond (is_due t i.bin) (kicked params t list i) i)) (λ i member. cond_both (is_due t i.bin) (kicked params t list i) i P (due i member) (waits i member)) list (All-contains_itself list))

pub length-next_list : (params : Params) (list : List Particle) (t : ℕ) → length (next_list params list t) ≡ length list
unfolding next_list
length-next_list params list t = simp length-map

-- the momenta of a kick are narrow
pub kicked_narrow_from : ForcesAreLow → (params : Params) (bounds : Bounds) (t : ℕ) (list : List Particle) (i : Particle) → InBounds params bounds t list → IsStepTick params t → Contains list i → IsDue t i.bin → IsMomentum (kicked params t list i).p × IsMomentum (kicked params t list i).q
kicked_narrow_from forces_low params bounds t list i are tick member due =
    let within = All-contains (IsWithin params bounds) list i are.within member in
    let at = All-contains (IsAt params bounds t) list i are.at member in
    let weak = forces_low params bounds t list i are tick member in
    (IsMomentum-kicked_p params bounds t list i are.bins tick within at due weak, IsMomentum-kicked_q params bounds t list i tick within at due weak)

-- the list after a step is in bounds
pub steps_keep_bounds_from : ForcesAreLow → GhostsAreLow → StepsKeepBounds
steps_keep_bounds_from forces_low ghosts_low params bounds t list are tick =
    let within = λ (i : Particle) (member : Contains list i). All-contains (IsWithin params bounds) list i are.within member in
    let at = λ (i : Particle) (member : Contains list i). All-contains (IsAt params bounds t) list i are.at member in
    let later : 0 < t + 2 ^ params.bin_min = omega (arith, pow_pos params.bin_min) in
    record {
      params_in_range = are.params_in_range;
      bins = are.bins;
      bounds_in_range = are.bounds_in_range;
      count = length-next_list params list t ∙ are.count;
      within = All-next_list params list t (IsWithin params bounds)
          (λ i member due. IsWithin-kicked params bounds t list i are.bins tick (within i member) (ghosts_low params bounds t list i are tick member))
          (λ i member waits. within i member);
      at = All-next_list params list t (IsAt params bounds (t + 2 ^ params.bin_min))
          (λ i member due. IsAt-later params bounds (t + 2 ^ params.bin_min) (kicked params t list i) later
          (IsInStep-kicked params bounds t list i are.bins tick (within i member) (at i member) (IsDue-from_true t i.bin due) (forces_low params bounds t list i are tick member)))
          (λ i member waits. IsAt-later params bounds (t + 2 ^ params.bin_min) i later (IsInStep-kept params bounds t i tick (at i member) waits));
    }
