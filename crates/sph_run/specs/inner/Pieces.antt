-- A run's output as pieces, each handed to the sink whole.
use Rattle.std.specs.Prelude.{ℕ, ◌*◌, List, [], flat_map}
use Rattle.std.specs.List.{range_with_len}
use Rattle.sph_deck.specs.declared.deck.Deck.{Deck}
use Rattle.sph_plain.specs.Run.{after}
use Rattle.sph_report.specs.SummaryLine.{summary_line}
use Rattle.sph_run.specs.declared.form.Form.{Form}
use Rattle.sph_run.specs.declared.form.Form.TheVariants.{Snapshots, Summary}
use Rattle.sph_run.specs.Stream.{snapshot_at}
use Rattle.sph_snap.specs.Snapshot.{end_mark, spell}

-- the piece at a tick
abbrev pub piece_at : Form → Deck → ℕ → List ℕ
piece_at Snapshots deck t = spell (snapshot_at deck t)
piece_at Summary deck t = summary_line t (after deck t)

-- the first pieces, so many
unfoldable pub pieces : Form → Deck → ℕ → List ℕ
pieces form deck count = flat_map (λ k. piece_at form deck (k * deck.params.every)) (range_with_len 0 count)

-- what follows the last one
abbrev pub end_of : Form → List ℕ
end_of Snapshots = end_mark
end_of Summary = []
