-- The laws: each snapshot of an accepted deck is whole, and their stream can be read.
use Rattle.std.proofs.Common.{◌≡◌, ℕ, zero, suc, ◌+◌, ◌*◌, ◌/◌, ◌^◌, ◌<◌, ◌≤◌, List, map, length, get_or, refl, ap, sym, subst, ◌∙◌, arith}
use Rattle.std.specs.Prelude.{ℤ}
use Rattle.std.specs.List.{All, Contains}
use Rattle.std.proofs.lemmas.Bool.{false≢true, ne_eqb}
use Rattle.std.proofs.lemmas.List.Elements.{All-weaker, All-map, All-contains}
use Rattle.std.specs.List.Sorted.{IsStrictlyIncreasing}
use Rattle.std.proofs.lemmas.List.{get_or-map, length-map}
use Rattle.std.proofs.Math.Nat.{zero-div}
use Rattle.sph_num.specs.declared.particle.Bounds.{Bounds}
use Rattle.sph_num.specs.declared.particle.Params.{Params}
use Rattle.sph_num.specs.declared.particle.Particle.{Particle}
use Rattle.sph_num.specs.Bound.{bounds_of}
use Rattle.sph_num.specs.Motion.{IsMomentum}
use Rattle.sph_num.specs.Ranges.{most_particles}
use Rattle.sph_bins.specs.Bins.{IsDue, IsStepTick}
use Rattle.sph_bins.specs.InBounds.{InBounds, IsWithin}
use Rattle.sph_bins.specs.Kick.{force_at, kicked, momentum_at}
use Rattle.sph_bins.proofs.BinOf.{true_from_IsDue}
use Rattle.sph_bins.proofs.Narrow.{force_at-le, ghost_at-le, sums_are_narrow_from}
use Rattle.sph_bins.proofs.Steps.{All-next_list, IsWithin-kicked, kicked_narrow_from, length-next_list}
use Rattle.sph_deck.specs.declared.deck.Deck.{Deck}
use Rattle.sph_deck.specs.Accepted.{AreAccepted}
use Rattle.sph_plain.specs.Run.{after, before, before_step, start, started}
use Rattle.sph_plain.proofs.Runs.{InBounds-before}
use Rattle.sph_run.specs.Laws.{SnapshotsAreWhole, StreamsCanBeRead}
use Rattle.sph_run.specs.Stream.{IsSnapshotTick, snapshot_at, snapshots_of}
use Rattle.sph_snap.specs.declared.snapshot.Snapshot.{Snapshot}
use Rattle.sph_snap.specs.Snapshot.{IsSnapshot}
use Rattle.sph_run.proofs.Rows.{HasAxes, IsKicked, IsSnapshot-kicked}
use Rattle.sph_run.proofs.Streams.{get_or-snapshots_of, length-snapshots_of}
use Rattle.sph_run.proofs.Ticks.{IsDue-snapshot, IsSnapshotTick-multiple, IsStepTick-snapshot}

-- a kick of a list in bounds
IsKicked-kicked : (params : Params) (bounds : Bounds) (t : ℕ) (list : List Particle) (i : Particle) → InBounds params bounds t list → IsStepTick params t → Contains list i → IsDue t i.bin → IsKicked t (kicked params t list i)
unfolding kicked
IsKicked-kicked params bounds t list i are tick member due =
    let narrow = sums_are_narrow_from (kicked_narrow_from force_at-le) params bounds t list i are tick member due in
    let within = All-contains (IsWithin params bounds) list i are.within member in
    let left = IsWithin-kicked params bounds t list i are.bins tick within (ghost_at-le params bounds t list i are tick member) in
    let ranges = are.bounds_in_range in
    record {
      tick = refl;
      mass = record { low = omega (arith, ranges.least_mass.low, within.mass_low); high = omega (arith, ranges.greatest_mass.high, within.mass_high) };
      h = record { low = omega (arith, ranges.least_h.low, within.h_low); high = omega (arith, ranges.greatest_h.high, within.h_high) };
      place = left.place;
      momentum = narrow.q;
      density_low = narrow.density_low;
      density_high = narrow.density_high;
      bin = omega (arith, left.bin, are.params_in_range.bin_max);
    }

-- at a snapshot's tick no particle of a list in bounds waits, and each is kicked
All-after : (deck : Deck) (t : ℕ) (P : Particle → Type 0) → AreAccepted deck.params deck.particles → IsSnapshotTick deck.params t
    → ((i : Particle) → Contains (before deck t) i → IsDue t i.bin → P (kicked deck.params t (before deck t) i)) → All P (after deck t)
unfolding after
All-after deck t P are at kick =
    let list = before deck t in
    let inside = InBounds-before deck t are (IsStepTick-snapshot deck.params deck.particles t are at) in
    let within = λ (i : Particle) (member : Contains list i). All-contains (IsWithin deck.params (bounds_of deck.particles)) list i inside.within member in
    let due = λ (i : Particle) (member : Contains list i). IsDue-snapshot deck.params deck.particles t i.bin are at (within i member).bin in
    All-next_list deck.params list t P (λ i member is_due. kick i member (due i member))
    (λ i member waits. absurd (false≢true (sym waits ∙ true_from_IsDue t i.bin (due i member))))

-- so their numbers are in their ranges, and there are as many as the deck has
AreKicked-after : (deck : Deck) (t : ℕ) → AreAccepted deck.params deck.particles → IsSnapshotTick deck.params t → All (IsKicked t) (after deck t)
AreKicked-after deck t are at =
    let tick = IsStepTick-snapshot deck.params deck.particles t are at in
    All-after deck t (IsKicked t) are at
    (λ i member due. IsKicked-kicked deck.params (bounds_of deck.particles) t (before deck t) i (InBounds-before deck t are tick) tick member due)

length-after : (deck : Deck) (t : ℕ) → AreAccepted deck.params deck.particles → IsSnapshotTick deck.params t → length (after deck t) ≡ length deck.particles
unfolding after
length-after deck t are at =
    length-next_list deck.params (before deck t) t ∙ (InBounds-before deck t are (IsStepTick-snapshot deck.params deck.particles t are at)).count

-- so there are few enough of them, and their momenta are narrow
pub few_after : (deck : Deck) (t : ℕ) → AreAccepted deck.params deck.particles → IsSnapshotTick deck.params t → length (after deck t) ≤ most_particles
few_after deck t are at = omega (arith, length-after deck t are at, are.in_range.not_too_many)

pub momenta_after : (deck : Deck) (t : ℕ) → AreAccepted deck.params deck.particles → IsSnapshotTick deck.params t → All (λ (p : Particle). IsMomentum p.q) (after deck t)
momenta_after deck t are at = All-weaker (IsKicked t) (λ (p : Particle). IsMomentum p.q) (λ p is. is.momentum) (after deck t) (AreKicked-after deck t are at)

-- the momentum of a deck's particle has a component on each axis
abbrev HasVector : Particle → Type 0
HasVector p = length p.p ≡ 3

-- a momentum at a tick has its components: those of the deck at tick 0, a sum's at any other
length-momentum_at : (deck : Deck) (t : ℕ) (i : Particle) (f : List ℤ) → All HasVector deck.particles → Contains (before deck t) i → length (momentum_at t i f) ≡ 3
unfolding before
length-momentum_at deck zero i f vectors member =
    let first : before deck 0 ≡ start deck = ap (before_step deck) (zero-div (2 ^ deck.params.bin_min)) in
    All-contains HasVector (start deck) i (All-map HasVector started deck.particles vectors) (subst (λ l. Contains l i) first member)
length-momentum_at deck (suc t) i f vectors member = rw (ne_eqb (suc t) 0 (λ e. omega arith)) refl

HasAxes-kicked : (deck : Deck) (t : ℕ) (i : Particle) → All HasVector deck.particles → Contains (before deck t) i → HasAxes (kicked deck.params t (before deck t) i)
unfolding kicked
HasAxes-kicked deck t i vectors member = length-momentum_at deck t i (force_at deck.params t (before deck t) i) vectors member

-- so each snapshot is whole
pub snapshots_are_whole : SnapshotsAreWhole
snapshots_are_whole deck t are at =
    let kicked = AreKicked-after deck t are at in
    let axes = All-after deck t HasAxes are at (λ i member due. HasAxes-kicked deck t i are.in_range.axes member) in
    let count = length-after deck t are at in
    record {
      ranges = IsSnapshot-kicked t (after deck t) (omega (arith, at.within, are.in_range.params_in_range.ticks))
          (omega (arith, count, are.in_range.some)) (omega (arith, count, are.in_range.not_too_many)) kicked axes;
      kicked = All-weaker (IsKicked t) (λ (p : Particle). p.t0 ≡ t) (λ p is. is.tick) (after deck t) kicked;
    }

-- the snapshots stand at the multiples of `every`
AreSnapshots : (deck : Deck) → AreAccepted deck.params deck.particles → All IsSnapshot (snapshots_of deck)
AreSnapshots deck are k d inside =
    let early : k ≤ deck.params.ticks / deck.params.every = omega (arith, length-snapshots_of deck) in
    rw (get_or-snapshots_of deck k d early) (snapshots_are_whole deck (k * deck.params.every) are (IsSnapshotTick-multiple deck.params k early)).ranges

tick_at : (deck : Deck) (k : ℕ) → k < length (snapshots_of deck) → get_or (map (λ (s : Snapshot). s.tick) (snapshots_of deck)) k 0 ≡ k * deck.params.every
tick_at deck k inside =
    let early : k ≤ deck.params.ticks / deck.params.every = omega (arith, length-snapshots_of deck) in
    let d = snapshot_at deck 0 in
    get_or-map (λ (s : Snapshot). s.tick) (snapshots_of deck) k d 0 inside ∙ ap (λ (s : Snapshot). s.tick) (get_or-snapshots_of deck k d early)

ticks_rise : (deck : Deck) → 1 ≤ deck.params.every → IsStrictlyIncreasing (map (λ (s : Snapshot). s.tick) (snapshots_of deck))
ticks_rise deck every k next =
    let inside : k + 1 < length (snapshots_of deck) = simp length-map at next in
    omega (arith, tick_at deck k (omega arith), tick_at deck (k + 1) inside)

-- so their stream can be read
pub streams_can_be_read : StreamsCanBeRead
streams_can_be_read deck are = record {
  some = omega (arith, length-snapshots_of deck);
  in_order = record {
    each = AreSnapshots deck are;
    rising = ticks_rise deck are.in_range.params_in_range.every_low;
  };
  spelled = refl;
}
