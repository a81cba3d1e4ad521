-- The output of a deck's run, a piece at a time.
use Rattle.std.proofs.Common.{◌≡◌, ℕ, ◌+◌, ◌*◌, ◌/◌, ◌<◌, ◌≤◌, List, ◌++◌, length, get_or, take, ap, sym, subst, ◌∙◌, append_assoc, append-nil, arith, ◌-◌}
use Rattle.std.specs.Prelude.{Option}
use Rattle.std.specs.Io.KnownBytes.{Appends}
use Rattle.std.specs.List.{flat_map, range_with_len}
use Rattle.std.proofs.KnownBytes.{Appends-trans}
use Rattle.std.proofs.lemmas.List.Concat.{flat_map-append}
use Rattle.std.proofs.lemmas.List.Folds.{flat_map-map}
use Rattle.std.proofs.lemmas.List.FromFn.{length-map-range_with_len, get_or-map-range_with_len, take-map-range_with_len}
use Rattle.lists.proofs.Ranges.{flat_map_range_more, range-add}
use Rattle.sph_deck.specs.declared.deck.Deck.{Deck}
use Rattle.sph_edge.specs.Bytes.{AppendsPrefix}
use Rattle.sph_run.specs.declared.form.Form.{Form}
use Rattle.sph_run.specs.declared.form.Form.TheVariants.{Snapshots, Summary}
use Rattle.sph_snap.specs.declared.snapshot.Snapshot.{Snapshot}
use Rattle.sph_snap.specs.Snapshot.{end_mark, spell}
use Rattle.sph_run.specs.Stream.{AppendsPiecesIn, output_in, snapshot_at, snapshot_count, snapshots_of}
use Rattle.sph_run.specs.inner.Pieces.{end_of, piece_at, pieces}
use Rattle.sph_run.proofs.Pieces.{AppendsPrefix-first, AppendsPrefix-rest}

pub length-snapshots_of : (deck : Deck) → length (snapshots_of deck) ≡ deck.params.ticks / deck.params.every + 1
unfolding snapshots_of
length-snapshots_of deck = length-map-range_with_len (λ k. snapshot_at deck (k * deck.params.every)) 0 (deck.params.ticks / deck.params.every + 1)

pub get_or-snapshots_of : (deck : Deck) (k : ℕ) (d : Snapshot) → k ≤ deck.params.ticks / deck.params.every → get_or (snapshots_of deck) k d ≡ snapshot_at deck (k * deck.params.every)
unfolding snapshots_of
get_or-snapshots_of deck k d inside =
    get_or-map-range_with_len (λ k. snapshot_at deck (k * deck.params.every)) 0 (deck.params.ticks / deck.params.every + 1) k k d (omega arith) (omega arith)

-- one more piece
pieces_more : (form : Form) (deck : Deck) (k : ℕ) → pieces form deck (k + 1) ≡ pieces form deck k ++ piece_at form deck (k * deck.params.every)
unfolding pieces
pieces_more form deck k =
    let at : 0 + k ≡ k = omega arith in
    flat_map_range_more (λ j. piece_at form deck (j * deck.params.every)) 0 k
    ∙ ap (λ j. pieces form deck k ++ piece_at form deck (j * deck.params.every)) at

-- some pieces, and those behind them
pieces_split : (form : Form) (deck : Deck) (k n : ℕ) → k ≤ n → (rest : List ℕ) × (pieces form deck n ≡ pieces form deck k ++ rest)
unfolding pieces
pieces_split form deck k n low =
    let piece = λ (j : ℕ). piece_at form deck (j * deck.params.every) in
    let whole : n ≡ k + (n - k) = omega arith in (
      flat_map piece (range_with_len (0 + k) (n - k)),
      ap (λ m. flat_map piece (range_with_len 0 m)) whole ∙ ap (flat_map piece) (range-add 0 k (n - k))
          ∙ flat_map-append piece (range_with_len 0 k) (range_with_len (0 + k) (n - k)),
    )

-- the first snapshots are the first pieces
spelled : (deck : Deck) (k : ℕ) → k ≤ snapshot_count deck → flat_map spell (take k (snapshots_of deck)) ≡ pieces Snapshots deck k
unfolding snapshots_of pieces
spelled deck k low =
    let snapshot = λ (j : ℕ). snapshot_at deck (j * deck.params.every) in
    ap (flat_map spell) (take-map-range_with_len snapshot 0 (snapshot_count deck) k low) ∙ flat_map-map spell snapshot (range_with_len 0 k)

-- all pieces and the end are the output
all_spelled : (deck : Deck) → flat_map spell (snapshots_of deck) ≡ pieces Snapshots deck (snapshot_count deck)
unfolding snapshots_of pieces
all_spelled deck = flat_map-map spell (λ (j : ℕ). snapshot_at deck (j * deck.params.every)) (range_with_len 0 (snapshot_count deck))

pub output_in-is : (form : Form) (deck : Deck) → output_in form deck ≡ pieces form deck (snapshot_count deck) ++ end_of form
unfolding pieces
output_in-is Snapshots deck = ap (λ bytes. bytes ++ end_mark) (all_spelled deck)
output_in-is Summary deck = sym (append-nil (pieces Summary deck (snapshot_count deck)))

-- one more piece went to the sink
pub Appends-piece : (form : Form) (deck : Deck) (a b c : Option (List ℕ)) (k : ℕ) (bytes : List ℕ) → bytes ≡ piece_at form deck (k * deck.params.every)
    → Appends a b (pieces form deck k) → Appends b c bytes → Appends a c (pieces form deck (k + 1))
Appends-piece form deck a b c k bytes is before here =
    subst (Appends a c) (ap (λ bytes. pieces form deck k ++ bytes) is ∙ sym (pieces_more form deck k)) (Appends-trans a b c (pieces form deck k) bytes before here)

-- some first bytes of the next piece are some of the output
pub AppendsPrefix-piece : (form : Form) (deck : Deck) (a b c : Option (List ℕ)) (k : ℕ) (bytes : List ℕ) → k < snapshot_count deck → bytes ≡ piece_at form deck (k * deck.params.every)
    → Appends a b (pieces form deck k) → AppendsPrefix b c bytes → AppendsPrefix a c (output_in form deck)
AppendsPrefix-piece form deck a b c k bytes inside is before here =
    let split = pieces_split form deck (k + 1) (snapshot_count deck) (omega arith) in
    let rest = split.0 ++ end_of form in
    let whole : output_in form deck ≡ pieces form deck k ++ (bytes ++ rest) =
    output_in-is form deck ∙ ap (λ l. l ++ end_of form) (split.1 ∙ ap (λ l. l ++ split.0) (pieces_more form deck k ∙ ap (λ l. pieces form deck k ++ l) (sym is)))
    ∙ append_assoc (pieces form deck k ++ bytes) split.0 (end_of form) ∙ append_assoc (pieces form deck k) bytes rest in
    subst (AppendsPrefix a c) (sym whole)
    (AppendsPrefix-rest a b c (pieces form deck k) (bytes ++ rest) before (AppendsPrefix-first b c bytes rest here))

-- behind all pieces the end went, or some of its first bytes
all_and : (form : Form) (deck : Deck) (k : ℕ) → k ≡ snapshot_count deck → pieces form deck k ++ end_of form ≡ output_in form deck
all_and form deck k all = ap (λ n. pieces form deck n ++ end_of form) all ∙ sym (output_in-is form deck)

pub Appends-end : (form : Form) (deck : Deck) (a b c : Option (List ℕ)) (k : ℕ) → k ≡ snapshot_count deck → Appends a b (pieces form deck k) → Appends b c (end_of form) → Appends a c (output_in form deck)
Appends-end form deck a b c k all before here = subst (Appends a c) (all_and form deck k all) (Appends-trans a b c (pieces form deck k) (end_of form) before here)

pub AppendsPrefix-end : (form : Form) (deck : Deck) (a b c : Option (List ℕ)) (k : ℕ) → k ≡ snapshot_count deck → Appends a b (pieces form deck k) → AppendsPrefix b c (end_of form) → AppendsPrefix a c (output_in form deck)
AppendsPrefix-end form deck a b c k all before here = subst (AppendsPrefix a c) (all_and form deck k all) (AppendsPrefix-rest a b c (pieces form deck k) (end_of form) before here)

-- so many whole pieces went
pub AppendsPiecesIn-some : (form : Form) (deck : Deck) (a b : Option (List ℕ)) (k : ℕ) → k ≤ snapshot_count deck → Appends a b (pieces form deck k) → AppendsPiecesIn form deck a b
unfolding pieces
AppendsPiecesIn-some Snapshots deck a b k low written =
    record { count = k; within = omega (arith, length-snapshots_of deck); appended = subst (Appends a b) (sym (spelled deck k low)) written }
AppendsPiecesIn-some Summary deck a b k low written = record { count = k; within = low; appended = written }
