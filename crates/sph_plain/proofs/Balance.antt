-- With one time bin each step leaves the sum of the momenta as it was.
use Rattle.std.proofs.Common.{◌≡◌, ℕ, zero, suc, ◌+◌, ◌*◌, ◌/◌, ◌^◌, ◌<◌, ◌≤◌, true, cond, List, Contains, ap, sym, subst, ◌∙◌, inl, inr, arith}
use Rattle.std.specs.Prelude.{ℤ, pos, ◌+ℤ◌, ◌*ℤ◌}
use Rattle.std.specs.List.{All}
use Rattle.std.proofs.lemmas.Bool.{cases_eq, eq-eqb, false≢true, ne_eqb}
use Rattle.std.proofs.lemmas.Int.{ints}
use Rattle.std.proofs.lemmas.List.Elements.{All-contains}
use Rattle.std.proofs.Math.Nat.{mul-mod_left, zero-mod}
use Rattle.sph_num.specs.declared.particle.Bounds.{Bounds}
use Rattle.sph_num.specs.declared.particle.Params.{Params}
use Rattle.sph_num.specs.declared.particle.Particle.{Particle}
use Rattle.sph_num.specs.Bound.{bounds_of, greatest_size}
use Rattle.sph_num.specs.Motion.{pushed}
use Rattle.sph_num.specs.Totals.{component, total_by}
use Rattle.sph_bins.specs.Bins.{IsDue, IsStepTick, bin_of, is_due}
use Rattle.sph_bins.specs.InBounds.{InBounds}
use Rattle.sph_bins.specs.Kick.{force_at, kicked, momentum_at, next_list}
use Rattle.sph_bins.proofs.BinOf.{bin_of-high, bin_of-low, true_from_IsDue}
use Rattle.sph_bins.proofs.Room.{quotient_of_multiple}
use Rattle.sph_bins.proofs.Steps.{All-next_list}
use Rattle.sph_deck.specs.declared.deck.Deck.{Deck}
use Rattle.sph_deck.specs.Accepted.{AreAccepted}
use Rattle.sph_plain.specs.Laws.{MomentumIsKept}
use Rattle.sph_plain.specs.Run.{after, before, started}
use Rattle.sph_plain.proofs.Opposite.{component-vector_of, forces_cancel}
use Rattle.sph_plain.proofs.Runs.{InBounds-before, before-zero, before_next}
use Rattle.sph_plain.proofs.SignedTotals.{total_by-add, total_by-same, total_by-times}
use Rattle.sph_plain.proofs.Totals.{total_by-map}

-- pushes by forces that cancel, all for the same time, leave the sum
sum_pushed : (p f : Particle → List ℤ) (n : ℕ) (list : List Particle) (axis : ℕ) → axis < 3 → total_by (λ i. component (f i) axis) list ≡ pos 0
    → total_by (λ i. component (pushed (p i) (f i) n) axis) list ≡ total_by (λ i. component (p i) axis) list
sum_pushed p f n list axis real cancel =
    let still : total_by (λ i. component (p i) axis) list +ℤ pos 0 *ℤ pos n ≡ total_by (λ i. component (p i) axis) list = omega (arith, ints) in
    total_by-same (λ i. component (pushed (p i) (f i) n) axis) (λ i. component (p i) axis +ℤ component (f i) axis *ℤ pos n) list
    (λ i member. component-vector_of (λ a. component (p i) a +ℤ component (f i) a *ℤ pos n) axis real)
    ∙ total_by-add (λ i. component (p i) axis) (λ i. component (f i) axis *ℤ pos n) list
    ∙ ap (λ z. total_by (λ i. component (p i) axis) list +ℤ z) (total_by-times (λ i. component (f i) axis) n list ∙ ap (λ z. z *ℤ pos n) cancel)
    ∙ still

-- a list before a step at which all particles are due: it is the first one, or all are in the one bin
record IsInStepAll (params : Params) (bounds : Bounds) (t : ℕ) (list : List Particle) : Type 0 where
  in_bounds : InBounds params bounds t list
  tick : IsStepTick params t
  one : params.bin_min ≡ params.bin_max
  bins : (t ≡ 0 → ⊥) → All (λ (i : Particle). i.bin ≡ params.bin_min) list

due_all : (params : Params) (bounds : Bounds) (t : ℕ) (list : List Particle) (i : Particle) → IsInStepAll params bounds t list → Contains list i → is_due t i.bin ≡ true
due_all params bounds t list i are member =
    elim (cases_eq t 0) [
      | inl first ↦ true_from_IsDue t i.bin (subst (λ n. IsDue n i.bin) (sym first) (zero-mod (2 ^ i.bin)))
      | inr later ↦
          let bin : i.bin ≡ params.bin_min = All-contains (λ (p : Particle). p.bin ≡ params.bin_min) list i (are.bins later) member in
          true_from_IsDue t i.bin (subst (λ b. IsDue t b) (sym bin) are.tick.due)
    ]

-- a sum over the list after the step is one over its kicks
total_next_list : (params : Params) (bounds : Bounds) (t : ℕ) (list : List Particle) (h : Particle → ℤ) → IsInStepAll params bounds t list
    → total_by h (next_list params list t) ≡ total_by (λ i. h (kicked params t list i)) list
unfolding next_list
total_next_list params bounds t list h are =
    total_by-map h (λ (i : Particle). cond (is_due t i.bin) (kicked params t list i) i) list
    ∙ total_by-same (λ (i : Particle). h (cond (is_due t i.bin) (kicked params t list i) i)) (λ i. h (kicked params t list i)) list
    (λ i member. ap (λ b. h (cond b (kicked params t list i) i)) (due_all params bounds t list i are member))

-- the momenta at the tick add up to those before it
sum_at_tick : (params : Params) (bounds : Bounds) (t : ℕ) (list : List Particle) (axis : ℕ) → IsInStepAll params bounds t list → axis < 3
    → total_by (λ i. component (momentum_at t i (force_at params t list i)) axis) list ≡ total_by (λ (i : Particle). component i.p axis) list
sum_at_tick params bounds t list axis are real =
    let f = force_at params t list in
    let cancel = forces_cancel params bounds t list axis are.in_bounds real in
    elim (cases_eq t 0) [
      | inl first ↦
          total_by-same (λ i. component (momentum_at t i (f i)) axis) (λ (i : Particle). component i.p axis) list
          (λ i member. ap (λ b. component (cond b i.p (pushed i.p (f i) (2 ^ i.bin))) axis) (eq-eqb t 0 first))
      | inr later ↦
          total_by-same (λ i. component (momentum_at t i (f i)) axis) (λ i. component (pushed i.p (f i) (2 ^ params.bin_min)) axis) list
          (λ i member.
          ap (λ b. component (cond b i.p (pushed i.p (f i) (2 ^ i.bin))) axis) (ne_eqb t 0 later)
          ∙ ap (λ b. component (pushed i.p (f i) (2 ^ b)) axis) (All-contains (λ (p : Particle). p.bin ≡ params.bin_min) list i (are.bins later) member))
          ∙ sum_pushed (λ i. i.p) f (2 ^ params.bin_min) list axis real cancel
    ]

-- the new bin is the one that there is
one_bin : (params : Params) (t fmax mass h : ℕ) → params.bin_min ≡ params.bin_max → IsStepTick params t → bin_of params t fmax mass h ≡ params.bin_min
one_bin params t fmax mass h one tick =
    omega (arith, bin_of-low params t fmax mass h (omega arith) tick.due, bin_of-high params t fmax mass h (omega arith) tick.due)

-- what the step leaves: the momenta at the tick, the momenta half a step ahead, and the bins
sum_q : (params : Params) (bounds : Bounds) (t : ℕ) (list : List Particle) (axis : ℕ) → IsInStepAll params bounds t list → axis < 3
    → total_by (λ (i : Particle). component i.q axis) (next_list params list t) ≡ total_by (λ (i : Particle). component i.p axis) list
unfolding kicked
sum_q params bounds t list axis are real =
    total_next_list params bounds t list (λ i. component i.q axis) are ∙ sum_at_tick params bounds t list axis are real

sum_p : (params : Params) (bounds : Bounds) (t : ℕ) (list : List Particle) (axis : ℕ) → IsInStepAll params bounds t list → axis < 3
    → total_by (λ (i : Particle). component i.p axis) (next_list params list t) ≡ total_by (λ (i : Particle). component i.p axis) list
unfolding kicked
sum_p params bounds t list axis are real =
    let f = force_at params t list in
    let q = λ (i : Particle). momentum_at t i (f i) in
    total_next_list params bounds t list (λ i. component i.p axis) are
    ∙ total_by-same (λ i. component (kicked params t list i).p axis) (λ i. component (pushed (q i) (f i) (2 ^ params.bin_min)) axis) list
    (λ i member. ap (λ b. component (pushed (q i) (f i) (2 ^ b)) axis) (one_bin params t (greatest_size (f i)) i.mass i.h are.one are.tick))
    ∙ sum_pushed q f (2 ^ params.bin_min) list axis real (forces_cancel params bounds t list axis are.in_bounds real)
    ∙ sum_at_tick params bounds t list axis are real

bins_next : (params : Params) (bounds : Bounds) (t : ℕ) (list : List Particle) → IsInStepAll params bounds t list → All (λ (i : Particle). i.bin ≡ params.bin_min) (next_list params list t)
unfolding kicked
bins_next params bounds t list are =
    All-next_list params list t (λ (i : Particle). i.bin ≡ params.bin_min)
    (λ i member due. one_bin params t (greatest_size (force_at params t list i)) i.mass i.h are.one are.tick)
    (λ i member waits. absurd (false≢true (sym waits ∙ due_all params bounds t list i are member)))

-- the list before a step of the run: its bins, and the sum of its momenta
record IsKept (deck : Deck) (axis t : ℕ) : Type 0 where
  bins : (t ≡ 0 → ⊥) → All (λ (i : Particle). i.bin ≡ deck.params.bin_min) (before deck t)
  sum : total_by (λ (i : Particle). component i.p axis) (before deck t) ≡ total_by (λ (i : Particle). component i.p axis) deck.particles

in_step_all : (deck : Deck) (axis t : ℕ) → AreAccepted deck.params deck.particles → deck.params.bin_min ≡ deck.params.bin_max → IsStepTick deck.params t → IsKept deck axis t
    → IsInStepAll deck.params (bounds_of deck.particles) t (before deck t)
in_step_all deck axis t are one tick kept = record { in_bounds = InBounds-before deck t are tick; tick = tick; one = one; bins = kept.bins }

kept_next : (deck : Deck) (axis t : ℕ) → AreAccepted deck.params deck.particles → deck.params.bin_min ≡ deck.params.bin_max → IsStepTick deck.params t → axis < 3 → IsKept deck axis t
    → IsKept deck axis (t + 2 ^ deck.params.bin_min)
unfolding after
kept_next deck axis t are one tick real kept =
    let all = in_step_all deck axis t are one tick kept in
    let next : next_list deck.params (before deck t) t ≡ before deck (t + 2 ^ deck.params.bin_min) = sym (before_next deck t tick) in
    record {
      bins = λ later. subst (All (λ (i : Particle). i.bin ≡ deck.params.bin_min)) next (bins_next deck.params (bounds_of deck.particles) t (before deck t) all);
      sum = subst (λ list. total_by (λ (i : Particle). component i.p axis) list ≡ total_by (λ (i : Particle). component i.p axis) deck.particles) next
          (sum_p deck.params (bounds_of deck.particles) t (before deck t) axis all real ∙ kept.sum);
    }

kept_at : (deck : Deck) (axis k : ℕ) → AreAccepted deck.params deck.particles → deck.params.bin_min ≡ deck.params.bin_max → axis < 3 → k * 2 ^ deck.params.bin_min ≤ deck.params.ticks
    → IsKept deck axis (k * 2 ^ deck.params.bin_min)
kept_at deck axis zero are one real early =
    let none : 0 * 2 ^ deck.params.bin_min ≡ 0 = omega arith in
    record {
      bins = λ later. absurd (later none);
      sum = ap (λ t. total_by (λ (i : Particle). component i.p axis) (before deck t)) none
          ∙ ap (total_by (λ (i : Particle). component i.p axis)) (sym (before-zero deck)) ∙ total_by-map (λ (i : Particle). component i.p axis) started deck.particles;
    }
kept_at deck axis (suc k) are one real early =
    let step = 2 ^ deck.params.bin_min in
    let next : k * step + step ≡ suc k * step = omega arith in
    let earlier : k * step ≤ deck.params.ticks = omega arith in
    let tick : IsStepTick deck.params (k * step) = record { due = mul-mod_left k step; within = earlier } in
    subst (IsKept deck axis) next (kept_next deck axis (k * step) are one tick real (kept_at deck axis k are one real earlier))

pub momentum_is_kept : MomentumIsKept
unfolding after
momentum_is_kept deck t axis are one tick real =
    let step = 2 ^ deck.params.bin_min in
    let whole : t / step * step ≡ t = quotient_of_multiple step t tick.due in
    let kept : IsKept deck axis t = subst (IsKept deck axis) whole (kept_at deck axis (t / step) are one real (omega (arith, tick.within))) in
    sum_q deck.params (bounds_of deck.particles) t (before deck t) axis (in_step_all deck axis t are one tick kept) real ∙ kept.sum
