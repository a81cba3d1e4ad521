-- What a run writes at the multiples of `every` up to the last tick: the stream of its snapshots, or the lines of its summary.
use Rattle.std.specs.Prelude.{◌≡◌, ℕ, ◌+◌, ◌*◌, ◌/◌, ◌%◌, ◌≤◌, List, map, take, length, flat_map, Option}
use Rattle.std.specs.List.{range_with_len}
use Rattle.std.specs.Io.KnownBytes.{Appends}
use Rattle.sph_num.specs.declared.particle.Params.{Params}
use Rattle.sph_deck.specs.declared.deck.Deck.{Deck}
use Rattle.sph_plain.specs.Run.{after}
use Rattle.sph_report.specs.SummaryLine.{summary_line}
use Rattle.sph_run.specs.declared.form.Form.{Form}
use Rattle.sph_run.specs.declared.form.Form.TheVariants.{Snapshots, Summary}
use Rattle.sph_snap.specs.declared.snapshot.Snapshot.{Snapshot}
use Rattle.sph_snap.specs.Snapshot.{snapshot_of, spell, stream_of}

-- a tick at which a snapshot is written
pub record IsSnapshotTick (params : Params) (t : ℕ) : Type 0 where
  pub multiple : t % params.every ≡ 0
  pub within : t ≤ params.ticks

-- how many such ticks there are
abbrev pub snapshot_count : Deck → ℕ
snapshot_count deck = deck.params.ticks / deck.params.every + 1

-- the snapshot at a tick: the particles after the step there
abbrev pub snapshot_at : Deck → ℕ → Snapshot
snapshot_at deck t = snapshot_of t (after deck t)

-- the snapshots of the run, in the order of their ticks
unfoldable pub snapshots_of : Deck → List Snapshot
snapshots_of deck = map (λ k. snapshot_at deck (k * deck.params.every)) (range_with_len 0 (snapshot_count deck))

-- the stream of the run: it doesn't name `leaf`, `pairs` or `slack`
abbrev pub deck_stream : Deck → List ℕ
deck_stream deck = stream_of (snapshots_of deck)

-- the first lines of the summary, so many: each has the sums at the tick of a snapshot
abbrev pub summary_lines : Deck → ℕ → List ℕ
summary_lines deck count =
    flat_map (λ k. summary_line (k * deck.params.every) (after deck (k * deck.params.every))) (range_with_len 0 count)

-- the summary of the run, which has no end mark
abbrev pub deck_summary : Deck → List ℕ
deck_summary deck = summary_lines deck (snapshot_count deck)

-- what a run writes in each form
abbrev pub output_in : Form → Deck → List ℕ
output_in Snapshots deck = deck_stream deck
output_in Summary deck = deck_summary deck

-- nothing was appended, or some first bytes of the stream that end behind a snapshot
pub record AppendsSnapshots (deck : Deck) (before after : Option (List ℕ)) : Type 0 where
  pub count : ℕ
  pub within : count ≤ length (snapshots_of deck)
  pub appended : Appends before after (flat_map spell (take count (snapshots_of deck)))

-- nothing was appended, or some first bytes of the summary that end behind a line
pub record AppendsLines (deck : Deck) (before after : Option (List ℕ)) : Type 0 where
  pub count : ℕ
  pub within : count ≤ snapshot_count deck
  pub appended : Appends before after (summary_lines deck count)

-- the same in each form
abbrev pub AppendsPiecesIn : Form → Deck → Option (List ℕ) → Option (List ℕ) → Type 0
AppendsPiecesIn Snapshots deck before after = AppendsSnapshots deck before after
AppendsPiecesIn Summary deck before after = AppendsLines deck before after
