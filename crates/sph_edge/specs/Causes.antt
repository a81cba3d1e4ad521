-- When a fault may be answered: only where a count of faults rose.
use Rattle.std.specs.Prelude.{◌≡◌, ℕ, ◌+◌, ◌-◌, ◌^◌, ◌<◌, ◌≤◌, min, Result, OnOk, OnErr, MatchResult}

-- one more, up to the end of the count's type
abbrev pub one_more : ℕ → ℕ
one_more count = min (count + 1) (2 ^ 64 - 1)

-- the count rose, or stands at its type's end
abbrev pub Rose : ℕ → ℕ → Type 0
Rose before now = one_more before ≤ now

-- the count did not rise, and would have shown a rise
abbrev pub Stayed : ℕ → ℕ → Type 0
Stayed before now = (now ≡ before) × (now < 2 ^ 64 - 1)

-- a count that never falls, rose at a failure and stayed at a success
pub record HasCause {T E : Type 0} (before now : ℕ) (result : Result T E) : Type 0 where
  pub later : before ≤ now
  pub failed : OnErr result (Rose before now)
  pub kept : OnOk result (now ≡ before)

-- a count of failed calls: as before where the call succeeded, and just one more where it failed
abbrev pub IsCounted : {T E : Type 0} → ℕ → ℕ → Result T E → Type 0
IsCounted before now result = MatchResult result (λ _. now ≡ before) (λ _. now ≡ one_more before)
