-- Some first pieces of an output are some of its first bytes.
use Rattle.std.proofs.Common.{◌≡◌, ℕ, ◌+◌, ◌-◌, ◌*◌, List, [], ◌++◌, length, take, drop, arith, sym, ap, ◌∙◌, subst, inl, inr, append_assoc}
use Rattle.std.specs.Prelude.{Option, flat_map}
use Rattle.std.specs.Io.KnownBytes.{Appends}
use Rattle.std.specs.List.{range_with_len}
use Rattle.std.proofs.lemmas.Grind.{flat_map-append}
use Rattle.lists.proofs.Ranges.{range-add}
use Rattle.sph_plain.specs.Run.{after as list_after}
use Rattle.sph_report.specs.SummaryLine.{summary_line}
use Rattle.std.proofs.lemmas.List.{take_all, take-append-drop}
use Rattle.sph_deck.specs.declared.deck.Deck.{Deck}
use Rattle.sph_edge.specs.Bytes.{AppendsPrefix}
use Rattle.sph_run.specs.Stream.{AppendsLines, AppendsSnapshots, deck_stream, deck_summary, snapshot_count, snapshots_of, summary_lines}
use Rattle.sph_run.proofs.Pieces.{AppendsPrefix-first}
use Rattle.sph_snap.specs.Snapshot.{end_mark, spell}
use Rattle.sph_top.specs.Output.{AppendsPieces, Output, bytes_of, stream, summary, text}

-- nothing is some first bytes of any piece
AppendsPrefix-nothing : (before after : Option (List ℕ)) (piece : List ℕ) → Appends before after [] → AppendsPrefix before after piece
AppendsPrefix-nothing before after piece p = record { count = 0; within = omega arith; appended = p }

-- the whole piece is some first bytes of it
AppendsPrefix-all : (before after : Option (List ℕ)) (piece : List ℕ) → Appends before after piece → AppendsPrefix before after piece
AppendsPrefix-all before after piece p = record {
  count = length piece;
  within = omega arith;
  appended = subst (Appends before after) (sym (take_all (length piece) piece (omega arith))) p;
}

-- some first items' bytes, and those of the other items behind them
flat_map-split : {A B : Type 0} (f : A → List B) (items : List A) (count : ℕ) → flat_map f items ≡ flat_map f (take count items) ++ flat_map f (drop count items)
flat_map-split f items count =
    ap (flat_map f) (sym (take-append-drop count items)) ∙ flat_map-append f (take count items) (drop count items)

-- whole snapshots are some first bytes of the stream
AppendsPrefix-snapshots : (deck : Deck) (before after : Option (List ℕ)) → AppendsSnapshots deck before after → AppendsPrefix before after (deck_stream deck)
AppendsPrefix-snapshots deck before after p =
    let snapshots = snapshots_of deck in
    let first = flat_map spell (take p.count snapshots) in
    let rest = flat_map spell (drop p.count snapshots) in
    let whole : deck_stream deck ≡ first ++ (rest ++ end_mark) =
    ap (λ l. l ++ end_mark) (flat_map-split spell snapshots p.count) ∙ append_assoc first rest end_mark in
    subst (AppendsPrefix before after) (sym whole) (AppendsPrefix-first before after first (rest ++ end_mark) (AppendsPrefix-all before after first p.appended))

-- whole lines are some first bytes of the summary
AppendsPrefix-lines : (deck : Deck) (before after : Option (List ℕ)) → AppendsLines deck before after → AppendsPrefix before after (deck_summary deck)
AppendsPrefix-lines deck before after p =
    let line = λ (k : ℕ). summary_line (k * deck.params.every) (list_after deck (k * deck.params.every)) in
    let left = snapshot_count deck - p.count in
    let first = summary_lines deck p.count in
    let rest = flat_map line (range_with_len (0 + p.count) left) in
    let count : snapshot_count deck ≡ p.count + left = omega (arith, p.within) in
    let whole : deck_summary deck ≡ first ++ rest =
    ap (summary_lines deck) count ∙ ap (flat_map line) (range-add 0 p.count left) ∙ flat_map-append line (range_with_len 0 p.count) (range_with_len (0 + p.count) left) in
    subst (AppendsPrefix before after) (sym whole) (AppendsPrefix-first before after first rest (AppendsPrefix-all before after first p.appended))

-- whole pieces of an output are some of its first bytes
pub AppendsPrefix-pieces : (output : Output) (before after : Option (List ℕ)) → AppendsPieces output before after → AppendsPrefix before after (bytes_of output)
AppendsPrefix-pieces (stream deck) before after p = AppendsPrefix-snapshots deck before after p
AppendsPrefix-pieces (summary deck) before after p = AppendsPrefix-lines deck before after p
AppendsPrefix-pieces (text bytes) before after (inl p) = AppendsPrefix-nothing before after bytes p
AppendsPrefix-pieces (text bytes) before after (inr p) = AppendsPrefix-all before after bytes p
