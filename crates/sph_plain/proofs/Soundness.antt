-- What the sums and the kick of a step need of each particle of the list before it.
use Rattle.std.proofs.Common.{◌≡◌, ℕ, ◌+◌, ◌*◌, ◌^◌, ◌<◌, ◌≤◌, List, length, map, get_or, subst, sym, arith}
use Rattle.std.specs.Prelude.{unsigned_abs}
use Rattle.std.specs.List.{All, Contains}
use Rattle.std.proofs.lemmas.List.Elements.{All-map, Contains-get_or}
use Rattle.std.proofs.lemmas.Nat.{pow_pos}
use Rattle.sph_num.specs.declared.particle.Bounds.{Bounds}
use Rattle.sph_num.specs.declared.particle.Params.{Params}
use Rattle.sph_num.specs.declared.particle.Particle.{Particle}
use Rattle.sph_num.specs.Bound.{bounds_of, greatest_momentum, greatest_force, greatest_ghost, momentum_limit}
use Rattle.sph_num.specs.Motion.{IsMomentum}
use Rattle.sph_num.specs.Ranges.{most_particles, IsMass, IsLength}
use Rattle.sph_num.specs.Space.{IsPlace}
use Rattle.sph_num.specs.Totals.{component}
use Rattle.sph_num.proofs.Drifts.{IsPlace-position_of}
use Rattle.sph_num.proofs.Sums.{greatest_ghost-lt}
use Rattle.sph_deck.specs.declared.deck.Deck.{Deck}
use Rattle.sph_deck.specs.Accepted.{AreAccepted}
use Rattle.sph_bins.specs.Bins.{IsStepTick}
use Rattle.sph_bins.specs.InBounds.{InBounds}
use Rattle.sph_bins.specs.Kick.{density_at, ghost_at, force_at}
use Rattle.sph_bins.proofs.Narrow.{density_at-ge, ghost_at-le, force_at-le}
use Rattle.sph_bins.proofs.Sound.{IsNear, below, force-lt}
use Rattle.sph_bins.proofs.Sound as itself
use Rattle.sph_plain.specs.inner.Bodies.{body_of, body_at, ghost_body, IsInRange}
use Rattle.sph_plain.specs.Run.{before}
use Rattle.sph_plain.proofs.Runs.{InBounds-before}

-- a particle of the list before a step
pub record IsSound (params : Params) (t : ℕ) (list : List Particle) (i : Particle) : Type 0 where
  pub near : IsNear t i
  pub bin : i.bin ≤ 10
  pub mass : IsMass i.mass
  pub h : IsLength i.h
  pub place : IsPlace i.x0
  pub density_low : 20 ≤ density_at params t list i
  pub kept_ghost : i.g < 2 ^ 42
  pub new_ghost : ghost_at params t list i < 2 ^ 42
  pub force : IsMomentum (force_at params t list i)

-- a force that a whole run keeps narrow is narrow
greatest_force-narrow : (params : Params) (bounds : Bounds) (most : ℕ) → momentum_limit params bounds most < 2 ^ 96 → greatest_force params.sound bounds < 2 ^ 96
greatest_force-narrow params bounds most sums =
    force-lt most (greatest_force params.sound bounds) (2 * params.ticks + 2 ^ params.bin_max) (2 ^ 96) (omega (arith, pow_pos params.bin_max)) sums

sound_at : (params : Params) (bounds : Bounds) (t : ℕ) (list : List Particle) → InBounds params bounds t list → IsStepTick params t → greatest_force params.sound bounds < 2 ^ 96 → (k : ℕ) (d : Particle) → k < length list → IsSound params t list (get_or list k d)
sound_at params bounds t list are tick weak k d inside =
    let i = get_or list k d in
    let member = Contains-get_or list k d inside in
    let light = greatest_ghost-lt params.sound bounds are.params_in_range.sound_high are.bounds_in_range in
    let of = itself.sound params bounds t list are k d inside in
    record {
      near = of.near;
      bin = of.bin;
      mass = of.mass;
      h = of.h;
      place = of.place;
      density_low = density_at-ge params bounds t list i are member;
      kept_ghost = of.kept_ghost;
      new_ghost = below (ghost_at params t list i) (greatest_ghost params.sound bounds) (2 ^ 42) (ghost_at-le params bounds t list i are tick member) light;
      force = λ axis. below (unsigned_abs (component (force_at params t list i) axis)) (greatest_force params.sound bounds) (2 ^ 96) (force_at-le params bounds t list i are tick member axis) weak;
    }

pub sound : (deck : Deck) (t : ℕ) → AreAccepted deck.params deck.particles → IsStepTick deck.params t → (k : ℕ) (d : Particle) → k < length (before deck t) → IsSound deck.params t (before deck t) (get_or (before deck t) k d)
sound deck t is tick k d inside =
    let list = before deck t in
    let bounds = bounds_of deck.particles in
    let are = InBounds-before deck t is tick in
    let weak = greatest_force-narrow deck.params bounds (greatest_momentum deck.particles) is.sums in
    sound_at deck.params bounds t list are tick weak k d inside

-- the same of a list that is this one
pub sound_of : (deck : Deck) (t : ℕ) (list : List Particle) → AreAccepted deck.params deck.particles → IsStepTick deck.params t → list ≡ before deck t → (k : ℕ) (d : Particle) → k < length list → IsSound deck.params t (before deck t) (get_or list k d)
sound_of deck t list is tick same k d inside =
    subst (λ l. k < length l → IsSound deck.params t (before deck t) (get_or l k d)) (sym same) (sound deck t is tick k d) inside

-- their number
pub count-le : (deck : Deck) (t : ℕ) → AreAccepted deck.params deck.particles → IsStepTick deck.params t → length (before deck t) ≤ most_particles
count-le deck t is tick =
    let are = InBounds-before deck t is tick in
    omega (arith, are.count, are.bounds_in_range.count_high)

-- their bodies, with the ghosts that they keep and with those that the forces take
IsInRange-body : (params : Params) (t : ℕ) (list : List Particle) (i : Particle) (g : ℕ) → IsSound params t list i → g < 2 ^ 42 → IsInRange (body_of params t i g)
IsInRange-body params t list i g is low =
    record { mass = is.mass; h = is.h; place = IsPlace-position_of params.shift t i; low_ghost = low }

pub All-body_at : (deck : Deck) (t : ℕ) → AreAccepted deck.params deck.particles → IsStepTick deck.params t → All IsInRange (map (body_at deck.params t) (before deck t))
All-body_at deck t is tick =
    let list = before deck t in
    All-map IsInRange (body_at deck.params t) list
    (λ k d inside. let i = get_or list k d in let good = sound deck t is tick k d inside in IsInRange-body deck.params t list i i.g good good.kept_ghost)

pub All-ghost_body : (deck : Deck) (t : ℕ) → AreAccepted deck.params deck.particles → IsStepTick deck.params t → All IsInRange (map (ghost_body deck.params t (before deck t)) (before deck t))
unfolding ghost_body
All-ghost_body deck t is tick =
    let list = before deck t in
    All-map IsInRange (ghost_body deck.params t list) list
    (λ k d inside. let i = get_or list k d in let good = sound deck t is tick k d inside in IsInRange-body deck.params t list i (ghost_at deck.params t list i) good good.new_ghost)
