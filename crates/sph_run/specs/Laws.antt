-- The stream of every accepted deck is one that can be read back, and doesn't depend on how the work is cut up.
use Rattle.std.specs.Prelude.{◌≡◌, ℕ, ◌<◌, All}
use Rattle.sph_num.specs.declared.particle.Particle.{Particle}
use Rattle.sph_num.specs.Totals.{component, total_by}
use Rattle.sph_deck.specs.declared.deck.Deck.{Deck}
use Rattle.sph_deck.specs.Accepted.{AreAccepted}
use Rattle.sph_plain.specs.Run.{after}
use Rattle.sph_run.specs.declared.form.Form.{Form}
use Rattle.sph_run.specs.Stream.{IsSnapshotTick, deck_stream, output_in, snapshot_at, snapshots_of}
use Rattle.sph_snap.specs.declared.snapshot.Snapshot.{Snapshot}
use Rattle.sph_snap.specs.Snapshot.{IsSnapshot, IsStreamOf}

-- at the tick of a snapshot every particle was kicked, and each number is in its range
pub record IsWhole (deck : Deck) (t : ℕ) : Type 0 where
  pub ranges : IsSnapshot (snapshot_at deck t)
  pub kicked : All (λ (p : Particle). p.t0 ≡ t) (after deck t)

-- each snapshot of an accepted deck is whole
abbrev pub SnapshotsAreWhole : Type 0
SnapshotsAreWhole = (deck : Deck) (t : ℕ) → AreAccepted deck.params deck.particles → IsSnapshotTick deck.params t → IsWhole deck t

-- the stream of an accepted deck is one that a reader takes, of just these snapshots
abbrev pub StreamsCanBeRead : Type 0
StreamsCanBeRead = (deck : Deck) → AreAccepted deck.params deck.particles → IsStreamOf (deck_stream deck) (snapshots_of deck)

-- two decks with the same particles and parameters, but for how the work is cut up: `leaf`, `pairs` and `slack`
pub record DifferInWork (deck other : Deck) : Type 0 where
  pub particles : other.particles ≡ deck.particles
  pub params : other.params ≡ record deck.params { leaf = other.params.leaf; pairs = other.params.pairs; slack = other.params.slack }

-- they have one stream, and one summary
abbrev pub OutputsIgnoreWork : Type 0
OutputsIgnoreWork = (form : Form) (deck other : Deck) → DifferInWork deck other → output_in form other ≡ output_in form deck

-- with one time bin the momenta on each axis, x being 0, y 1 and z 2, add up in each snapshot to what the deck's do
abbrev pub SnapshotsKeepMomentum : Type 0
SnapshotsKeepMomentum =
    (deck : Deck) (axis : ℕ) → AreAccepted deck.params deck.particles → deck.params.bin_min ≡ deck.params.bin_max → axis < 3
    → All (λ (s : Snapshot). total_by (λ row. component row.q axis) s.rows ≡ total_by (λ i. component i.p axis) deck.particles) (snapshots_of deck)
