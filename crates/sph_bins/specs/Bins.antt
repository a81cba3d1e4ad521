-- Time bins: a particle of bin b is due at the multiples of 2^b.
use Rattle.std.specs.Prelude.{◌≡◌, ℕ, ◌*◌, ◌%◌, ◌^◌, ◌<◌, ◌≤◌, Bool, ◌==◌, ◌&&◌, ◌||◌, nat_le}
use Rattle.sph_num.specs.declared.particle.Params.{Params}
use Rattle.sph_num.specs.Kernel.{greatest_passing}

-- the bin is due at the tick: 2^bin divides it
abbrev pub IsDue : ℕ → ℕ → Type 0
IsDue t bin = t % 2 ^ bin ≡ 0

-- the same as a test
abbrev pub is_due : ℕ → ℕ → Bool
is_due t bin = t % 2 ^ bin == 0

-- the tick is the least multiple of 2^bin above t
pub record IsTickAfter (t bin next : ℕ) : Type 0 where
  pub due : IsDue next bin
  pub above : t < next
  pub least : (other : ℕ) → IsDue other bin → t < other → next ≤ other

-- a particle may take the bin: it is due, and it is the least one or its step is short enough for the force
abbrev pub may_take : Params → ℕ → ℕ → ℕ → ℕ → ℕ → Bool
may_take params t fmax mass h bin =
    nat_le params.bin_min bin && is_due t bin && (bin == params.bin_min || nat_le (fmax * 4 ^ bin) (params.accuracy * mass * h))

-- the new bin: the greatest up to bin_max that the particle may take
unfoldable pub bin_of : Params → ℕ → ℕ → ℕ → ℕ → ℕ
bin_of params t fmax mass h = greatest_passing (may_take params t fmax mass h) params.bin_max

-- a tick at which some particle may be due: a multiple of 2^bin_min up to the last tick
pub record IsStepTick (params : Params) (t : ℕ) : Type 0 where
  pub due : IsDue t params.bin_min
  pub within : t ≤ params.ticks
