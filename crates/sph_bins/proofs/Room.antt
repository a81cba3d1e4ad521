-- Multiples of powers of two, and the room that a kick takes from a momentum.
use Rattle.std.proofs.Common.{◌≡◌, ℕ, ◌+◌, ◌-◌, ◌*◌, ◌/◌, ◌%◌, ◌^◌, ◌<◌, ◌≤◌, inl, inr, ap, sym, ◌∙◌, arith}
use Rattle.std.proofs.lemmas.Bool.{cases_lt}
use Rattle.std.proofs.lemmas.Nat.{pow-add, mul-pow, div-add-mod', mul-le}
use Rattle.std.proofs.Math.Nat.{pow-le-pow_right, mul-mod_left, mod-eq_of_lt, add-mul-mod_self_right}
use Rattle.std.specs.Prelude.{ℤ, pos, ◌+ℤ◌, ◌*ℤ◌, unsigned_abs}
use Rattle.std.proofs.lemmas.Int.{ints, unsigned_abs-mul}

-- a greater power
pub pow-le : (a b : ℕ) → a ≤ b → 2 ^ a ≤ 2 ^ b
pow-le a b h = pow-le-pow_right (omega arith) h

-- four to a power
pub pow-four : (k : ℕ) → 2 ^ (2 * k) ≡ 4 ^ k
pow-four k =
    let double : 2 * k ≡ k + k = omega arith in
    rw double (pow-add 2 k k ∙ sym (mul-pow 2 2 k))

-- a force below 2^96 shifted by twice a bin
pub shifted-is : (force bin : ℕ) → force < 2 ^ 96 → bin ≤ 10 → (force * 2 ^ (2 * bin)) % 2 ^ 128 ≡ force * 4 ^ bin
shifted-is force bin small low =
    let factor : 2 ^ (2 * bin) ≤ 2 ^ 20 = pow-le (2 * bin) 20 (omega arith) in
    let fits : force * 2 ^ (2 * bin) < 2 ^ 128 = omega (arith, mul-le force (2 ^ (2 * bin)) (2 ^ 96) (2 ^ 20) (omega arith) factor) in
    mod-eq_of_lt fits ∙ ap (λ x. force * x) (pow-four bin)

-- a multiple of d is its quotient times d
pub quotient_of_multiple : (d n : ℕ) → n % d ≡ 0 → (n / d) * d ≡ n
quotient_of_multiple d n h = omega (arith, div-add-mod' n d)

-- two multiples of d are at least d apart
pub multiples_apart : (d s t : ℕ) → s % d ≡ 0 → t % d ≡ 0 → s < t → s + d ≤ t
multiples_apart d s t ds dt less =
    let es = quotient_of_multiple d s ds in
    let et = quotient_of_multiple d t dt in
    elim (cases_lt (s / d) (t / d)) [
      | inl h ↦ omega (arith, es, et, mul-le (s / d + 1) d (t / d) d (omega arith) (omega arith))
      | inr h ↦ absurd (omega (arith, es, et, mul-le (t / d) d (s / d) d h (omega arith)))
    ]

-- a sum of multiples
pub multiple_add : (d s t : ℕ) → s % d ≡ 0 → t % d ≡ 0 → (s + t) % d ≡ 0
multiple_add d s t ds dt =
    let et = quotient_of_multiple d t dt in
    ap (λ x. (s + x) % d) (sym et) ∙ add-mul-mod_self_right s (t / d) d ∙ ds

-- a multiple of a power of two is one of each lesser power
pub multiple_of_less : (a b n : ℕ) → a ≤ b → n % 2 ^ b ≡ 0 → n % 2 ^ a ≡ 0
multiple_of_less a b n less h =
    let split : 2 ^ b ≡ 2 ^ (b - a) * 2 ^ a = (let e : b ≡ (b - a) + a = omega arith in ap (λ k. 2 ^ k) e ∙ pow-add 2 (b - a) a) in
    let e : n ≡ (n / 2 ^ b * 2 ^ (b - a)) * 2 ^ a = omega (arith, quotient_of_multiple (2 ^ b) n h, ap (λ x. n / 2 ^ b * x) split) in
    ap (λ x. x % 2 ^ a) e ∙ mul-mod_left (n / 2 ^ b * 2 ^ (b - a)) (2 ^ a)

-- a force for so many ticks
pub unsigned_abs-push : (p f : ℤ) (n : ℕ) → unsigned_abs (p +ℤ f *ℤ pos n) ≤ unsigned_abs p + unsigned_abs f * n
unsigned_abs-push p f n = omega (arith, ints, unsigned_abs-mul f (pos n))

-- the room that is left after the second half of a step of `old` ticks and the first half of one of `new` ticks, under a force of at most m
pub room_left : (a f m old new rest room v limit : ℕ) → v ≤ a + f * old + f * new → f ≤ m → rest + new + old ≡ room → a + m * room < limit → v + m * rest < limit
room_left a f m old new rest room v limit moved weak split narrow =
    let product : m * room ≡ m * rest + m * new + m * old = omega (arith, ap (λ x. m * x) (sym split)) in
    omega (arith, mul-le f old m old weak (omega arith), mul-le f new m new weak (omega arith))
