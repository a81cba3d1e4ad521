-- The ticks of a run: a snapshot stands at a step tick, at which every bin is due, and the next step is one step later.
use Rattle.std.proofs.Common.{◌≡◌, ℕ, ◌+◌, ◌*◌, ◌/◌, ◌%◌, ◌^◌, ◌<◌, ◌≤◌, List, ap, ◌∙◌, arith}
use Rattle.std.proofs.lemmas.Nat.{mul-le}
use Rattle.std.proofs.Math.Nat.{mul-mod_left, zero-mod}
use Rattle.sph_num.specs.declared.particle.Params.{Params}
use Rattle.sph_num.specs.declared.particle.Particle.{Particle}
use Rattle.sph_bins.specs.Bins.{IsDue, IsStepTick}
use Rattle.sph_bins.proofs.Room.{quotient_of_multiple, multiples_apart, multiple_of_less}
use Rattle.sph_deck.specs.declared.deck.Deck.{Deck}
use Rattle.sph_deck.specs.Accepted.{AreAccepted}
use Rattle.sph_plain.specs.Run.{before, after}
use Rattle.sph_plain.proofs.Runs.{before_next}
use Rattle.sph_run.specs.Stream.{IsSnapshotTick}

-- a multiple of a multiple
multiple_of_multiple : (d a n : ℕ) → a % d ≡ 0 → n % a ≡ 0 → n % d ≡ 0
multiple_of_multiple d a n da an =
    let e : n ≡ (n / a * (a / d)) * d = omega (arith, quotient_of_multiple a n an, ap (λ x. n / a * x) (quotient_of_multiple d a da)) in
    ap (λ x. x % d) e ∙ mul-mod_left (n / a * (a / d)) d

-- every bin is due at the tick of a snapshot
pub IsDue-snapshot : (params : Params) (particles : List Particle) (t bin : ℕ) → AreAccepted params particles → IsSnapshotTick params t → bin ≤ params.bin_max → IsDue t bin
IsDue-snapshot params particles t bin are at low =
    multiple_of_less bin params.bin_max t low (multiple_of_multiple (2 ^ params.bin_max) params.every t are.every at.multiple)

pub IsStepTick-snapshot : (params : Params) (particles : List Particle) (t : ℕ) → AreAccepted params particles → IsSnapshotTick params t → IsStepTick params t
IsStepTick-snapshot params particles t are at =
    record { due = IsDue-snapshot params particles t params.bin_min are at are.bins; within = at.within }

-- the snapshot of each number
pub IsSnapshotTick-multiple : (params : Params) (k : ℕ) → k ≤ params.ticks / params.every → IsSnapshotTick params (k * params.every)
IsSnapshotTick-multiple params k early =
    record {
      multiple = mul-mod_left k params.every;
      within = omega (arith, mul-le k params.every (params.ticks / params.every) params.every early (omega arith));
    }

-- one step is no longer than the time between two snapshots
pub step-le : (params : Params) (particles : List Particle) → AreAccepted params particles → 2 ^ params.bin_min ≤ params.every
step-le params particles are =
    let due = multiple_of_less params.bin_min params.bin_max params.every are.bins are.every in
    omega (arith, are.in_range.params_in_range.every_low, multiples_apart (2 ^ params.bin_min) 0 params.every (zero-mod (2 ^ params.bin_min)) due)

-- a due tick within one step past another is the one after it
pub next_due : (bin t next : ℕ) → IsDue t bin → IsDue next bin → t < next → next ≤ t + 2 ^ bin → next ≡ t + 2 ^ bin
next_due bin t next due next_is_due later soon = omega (arith, multiples_apart (2 ^ bin) t next due next_is_due later)

-- the list before the step after this one
pub before_step_after : (deck : Deck) (t next : ℕ) → IsStepTick deck.params t → next ≡ t + 2 ^ deck.params.bin_min → before deck next ≡ after deck t
before_step_after deck t next tick is = ap (before deck) is ∙ before_next deck t tick
