-- The new bin of a particle: between the least and the greatest, due, and the greatest that may be taken.
use Rattle.std.proofs.Common.{◌≡◌, ℕ, zero, suc, ◌+◌, ◌-◌, ◌*◌, ◌/◌, ◌%◌, ◌^◌, ◌<◌, ◌≤◌, Bool, true, false, leb, cond, ◌&&◌, inl, inr, sym, ◌∙◌, arith}
use Rattle.std.proofs.lemmas.Bool.{cases_Bool, cases_eq, both_ways, eqb-true, eq-eqb}
use Rattle.std.proofs.lemmas.Nat.{pow_pos, div-add-mod', mod_below}
use Rattle.std.proofs.Math.Nat.{mul-mod_left}
use Rattle.std.proofs.lemmas.Bool.Decides.{nat_tests}
use Rattle.sph_num.specs.declared.particle.Params.{Params}
use Rattle.sph_num.specs.Kernel.{greatest_passing}
use Rattle.sph_num.proofs.Roots.{greatest_passing-is}
use Rattle.sph_bins.specs.Bins.{IsDue, is_due, IsTickAfter, may_take, bin_of}
use Rattle.sph_bins.proofs.Room.{multiples_apart}

-- the test of a due bin and the fact
pub IsDue-from_true : (t bin : ℕ) → is_due t bin ≡ true → IsDue t bin
IsDue-from_true t bin h = eqb-true (t % 2 ^ bin) 0 h

pub true_from_IsDue : (t bin : ℕ) → IsDue t bin → is_due t bin ≡ true
true_from_IsDue t bin h = eq-eqb (t % 2 ^ bin) 0 h

-- what the greatest number that passes is, where s passes
pub record IsGreatestPassing (passes : ℕ → Bool) (s n greatest : ℕ) : Type 0 where
  pub low : s ≤ greatest
  pub high : greatest ≤ n
  pub passing : passes greatest ≡ true

below_top : (passes : ℕ → Bool) (s n : ℕ) → s ≤ suc n → passes s ≡ true → passes (suc n) ≡ false → s ≤ n
below_top passes s n low passing fails =
    elim (cases_eq s (suc n)) [
      | inl e ↦ absurd (both_ways (passes (suc n)) fails (rw e at passing))
      | inr differs ↦ omega arith
    ]

greatest_passing_step : (passes : ℕ → Bool) (s n rest : ℕ) → s ≤ suc n → passes s ≡ true → (s ≤ n → IsGreatestPassing passes s n rest) → IsGreatestPassing passes s (suc n) (cond (passes (suc n)) (suc n) rest)
greatest_passing_step passes s n rest low passing before =
    elim (cases_Bool (passes (suc n))) [
      | inl here ↦ rw here (record { low = low; high = omega arith; passing = here })
      | inr not_here ↦
          let less : s ≤ n = below_top passes s n low passing not_here in
          let is = before less in
          rw not_here (record { low = is.low; high = omega (arith, is.high); passing = is.passing })
    ]

pub IsGreatestPassing-greatest_passing : (passes : ℕ → Bool) (s n : ℕ) → s ≤ n → passes s ≡ true → IsGreatestPassing passes s n (greatest_passing passes n)
IsGreatestPassing-greatest_passing passes s zero low passing =
    let e : s ≡ 0 = omega arith in
    record { low = low; high = omega arith; passing = rw e at passing }
IsGreatestPassing-greatest_passing passes s (suc n) low passing =
    greatest_passing_step passes s n (greatest_passing passes n) low passing (λ h. IsGreatestPassing-greatest_passing passes s n h passing)

-- the least bin may always be taken
pub may_take_least : (params : Params) (t fmax mass h : ℕ) → IsDue t params.bin_min → may_take params t fmax mass h params.bin_min ≡ true
may_take_least params t fmax mass h due = grind (arith, nat_tests, due)

-- a bin that may be taken is due
pub IsDue-from_may_take : (params : Params) (t fmax mass h bin : ℕ) → may_take params t fmax mass h bin ≡ true → IsDue t bin
IsDue-from_may_take params t fmax mass h bin taken = grind (arith, nat_tests, taken)

IsGreatestPassing-bin_of : (params : Params) (t fmax mass h : ℕ) → params.bin_min ≤ params.bin_max → IsDue t params.bin_min → IsGreatestPassing (may_take params t fmax mass h) params.bin_min params.bin_max (bin_of params t fmax mass h)
unfolding bin_of
IsGreatestPassing-bin_of params t fmax mass h bins due =
    IsGreatestPassing-greatest_passing (may_take params t fmax mass h) params.bin_min params.bin_max bins (may_take_least params t fmax mass h due)

-- the new bin
pub bin_of-low : (params : Params) (t fmax mass h : ℕ) → params.bin_min ≤ params.bin_max → IsDue t params.bin_min → params.bin_min ≤ bin_of params t fmax mass h
bin_of-low params t fmax mass h bins due = (IsGreatestPassing-bin_of params t fmax mass h bins due).low

pub bin_of-high : (params : Params) (t fmax mass h : ℕ) → params.bin_min ≤ params.bin_max → IsDue t params.bin_min → bin_of params t fmax mass h ≤ params.bin_max
bin_of-high params t fmax mass h bins due = (IsGreatestPassing-bin_of params t fmax mass h bins due).high

pub bin_of-due : (params : Params) (t fmax mass h : ℕ) → params.bin_min ≤ params.bin_max → IsDue t params.bin_min → IsDue t (bin_of params t fmax mass h)
bin_of-due params t fmax mass h bins due =
    IsDue-from_may_take params t fmax mass h (bin_of params t fmax mass h) (IsGreatestPassing-bin_of params t fmax mass h bins due).passing

-- such a bin is the new one
pub bin_of-is : (params : Params) (t fmax mass h bin : ℕ) → bin ≤ params.bin_max → may_take params t fmax mass h bin ≡ true → ((k : ℕ) → bin < k → k ≤ params.bin_max → may_take params t fmax mass h k ≡ false) → bin_of params t fmax mass h ≡ bin
unfolding bin_of
bin_of-is params t fmax mass h bin high taken above = greatest_passing-is (may_take params t fmax mass h) params.bin_max bin high taken above

-- what the walk from bin_max down knows of a bin: none above it may be taken
pub record IsNoneAbove (params : Params) (t fmax mass h bin : ℕ) : Type 0 where
  pub low : params.bin_min ≤ bin
  pub high : bin ≤ params.bin_max
  pub above : (k : ℕ) → bin < k → k ≤ params.bin_max → may_take params t fmax mass h k ≡ false

-- the tick after t that the quotient gives
pub IsTickAfter-step : (t bin step : ℕ) → step ≡ 2 ^ bin → IsTickAfter t bin ((t / step + 1) * step)
IsTickAfter-step t bin step is =
    let split = div-add-mod' t (2 ^ bin) in
    let rest = mod_below t (2 ^ bin) (pow_pos bin) in
    let due : IsDue ((t / 2 ^ bin + 1) * 2 ^ bin) bin = mul-mod_left (t / 2 ^ bin + 1) (2 ^ bin) in
    let before : IsDue (t / 2 ^ bin * 2 ^ bin) bin = mul-mod_left (t / 2 ^ bin) (2 ^ bin) in
    rw is (record {
      due = due;
      above = omega arith;
      least = λ other is_due above. omega (arith, multiples_apart (2 ^ bin) (t / 2 ^ bin * 2 ^ bin) other before is_due (omega arith));
    })

-- the code's test of a bin above the least, with its product of 128 bits
fits-is : (params : Params) (t fmax mass h bin allowed : ℕ) (fits : Bool) → params.bin_min < bin → allowed ≡ params.accuracy * mass * h → fits ≡ (is_due t bin && leb (fmax * 4 ^ bin) allowed) → may_take params t fmax mass h bin ≡ fits
fits-is params t fmax mass h bin allowed fits above product is = grind (arith, nat_tests, is, product)

-- one bin further down, where this one doesn't fit
pub IsNoneAbove-less : (params : Params) (t fmax mass h bin allowed : ℕ) (fits : Bool) → IsNoneAbove params t fmax mass h bin → params.bin_min < bin → allowed ≡ params.accuracy * mass * h → fits ≡ (is_due t bin && leb (fmax * 4 ^ bin) allowed) → fits ≡ false → IsNoneAbove params t fmax mass h (bin - 1)
IsNoneAbove-less params t fmax mass h bin allowed fits are least product is fails =
    record {
      low = omega arith;
      high = omega (arith, are.high);
      above = λ k more high. elim (cases_eq k bin) [
        | inl e ↦ rw e (fits-is params t fmax mass h bin allowed fits least product is ∙ fails)
        | inr differs ↦ are.above k (omega arith) high
      ];
    }

-- the walk ends at the new bin: the first that fits, or the least
pub bin_of-fits : (params : Params) (t fmax mass h bin allowed : ℕ) (fits : Bool) → IsNoneAbove params t fmax mass h bin → params.bin_min < bin → allowed ≡ params.accuracy * mass * h → fits ≡ (is_due t bin && leb (fmax * 4 ^ bin) allowed) → fits ≡ true → bin ≡ bin_of params t fmax mass h
bin_of-fits params t fmax mass h bin allowed fits are least product is passes =
    sym (bin_of-is params t fmax mass h bin are.high (fits-is params t fmax mass h bin allowed fits least product is ∙ passes) are.above)

pub bin_of-least : (params : Params) (t fmax mass h bin : ℕ) → IsNoneAbove params t fmax mass h bin → IsDue t params.bin_min → bin ≤ params.bin_min → bin ≡ bin_of params t fmax mass h
bin_of-least params t fmax mass h bin are due low =
    let e : bin ≡ params.bin_min = omega (arith, are.low) in
    sym (bin_of-is params t fmax mass h bin are.high (rw e (may_take_least params t fmax mass h due)) are.above)
