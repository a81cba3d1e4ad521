-- What a run writes doesn't depend on how its work is cut up.
use Rattle.std.proofs.Common.{◌≡◌, ℕ, zero, suc, ◌+◌, ◌*◌, ◌/◌, ◌^◌, List, [], ◌∷◌, ◌++◌, map, refl, ap, sym, ◌∙◌}
use Rattle.std.specs.List.{flat_map, range_with_len}
use Rattle.sph_num.specs.declared.particle.Params.{Params}
use Rattle.sph_num.specs.declared.particle.Particle.{Particle}
use Rattle.sph_bins.specs.Bins.{bin_of}
use Rattle.sph_bins.specs.Kick.{kicked, next_list}
use Rattle.sph_deck.specs.declared.deck.Deck.{Deck}
use Rattle.sph_plain.specs.Run.{after, before, before_step, started}
use Rattle.sph_report.specs.SummaryLine.{summary_line}
use Rattle.sph_run.specs.declared.form.Form.{Form}
use Rattle.sph_run.specs.declared.form.Form.TheVariants.{Snapshots, Summary}
use Rattle.sph_snap.specs.Snapshot.{snapshot_of, spell}
use Rattle.sph_run.specs.Laws.{DifferInWork, OutputsIgnoreWork}
use Rattle.sph_run.specs.Stream.{snapshot_count}
use Rattle.sph_run.specs.inner.Pieces.{end_of, piece_at, pieces}
use Rattle.sph_run.proofs.Streams.{output_in-is}

-- the parameters with another leaf, other pairs and another slack
with_work : Params → ℕ → ℕ → ℕ → Params
with_work params leaf pairs slack = record params { leaf = leaf; pairs = pairs; slack = slack }

-- no step reads them
next_list-with_work : (params : Params) (leaf pairs slack : ℕ) (list : List Particle) (t : ℕ) → next_list (with_work params leaf pairs slack) list t ≡ next_list params list t
unfolding with_work next_list kicked bin_of
next_list-with_work params leaf pairs slack list t = refl

-- so the lists of two such decks are the same
same_params : (deck other : Deck) → DifferInWork deck other → other.params ≡ with_work deck.params other.params.leaf other.params.pairs other.params.slack
unfolding with_work
same_params deck other differ = differ.params

same_step : (deck other : Deck) → DifferInWork deck other → other.params.bin_min ≡ deck.params.bin_min
same_step deck other differ = ap (λ (p : Params). p.bin_min) differ.params

same_every : (deck other : Deck) → DifferInWork deck other → other.params.every ≡ deck.params.every
same_every deck other differ = ap (λ (p : Params). p.every) differ.params

same_count : (deck other : Deck) → DifferInWork deck other → snapshot_count other ≡ snapshot_count deck
same_count deck other differ = ap (λ (p : Params). p.ticks / p.every + 1) differ.params

same_next : (deck other : Deck) (list : List Particle) (t : ℕ) → DifferInWork deck other → next_list other.params list t ≡ next_list deck.params list t
same_next deck other list t differ =
    ap (λ (p : Params). next_list p list t) (same_params deck other differ) ∙ next_list-with_work deck.params other.params.leaf other.params.pairs other.params.slack list t

same_before_step : (deck other : Deck) (k : ℕ) → DifferInWork deck other → before_step other k ≡ before_step deck k
same_before_step deck other zero differ = ap (map started) differ.particles
same_before_step deck other (suc k) differ =
    same_next deck other (before_step other k) (k * 2 ^ other.params.bin_min) differ
    ∙ ap (λ n. next_list deck.params (before_step other k) (k * 2 ^ n)) (same_step deck other differ)
    ∙ ap (λ list. next_list deck.params list (k * 2 ^ deck.params.bin_min)) (same_before_step deck other k differ)

same_before : (deck other : Deck) (t : ℕ) → DifferInWork deck other → before other t ≡ before deck t
unfolding before
same_before deck other t differ =
    ap (λ n. before_step other (t / 2 ^ n)) (same_step deck other differ) ∙ same_before_step deck other (t / 2 ^ deck.params.bin_min) differ

same_after : (deck other : Deck) (t : ℕ) → DifferInWork deck other → after other t ≡ after deck t
unfolding after
same_after deck other t differ =
    same_next deck other (before other t) t differ ∙ ap (λ list. next_list deck.params list t) (same_before deck other t differ)

-- and so is each piece
same_piece : (form : Form) (deck other : Deck) (t : ℕ) → DifferInWork deck other → piece_at form other t ≡ piece_at form deck t
same_piece Snapshots deck other t differ = ap (λ list. spell (snapshot_of t list)) (same_after deck other t differ)
same_piece Summary deck other t differ = ap (summary_line t) (same_after deck other t differ)

-- equal parts join to equal lists
flat_map_same : {X Y : Type 0} (f g : X → List Y) (xs : List X) → ((x : X) → f x ≡ g x) → flat_map f xs ≡ flat_map g xs
flat_map_same f g [] same = refl
flat_map_same f g (x ∷ xs) same = ap (λ l. l ++ flat_map f xs) (same x) ∙ ap (λ l. g x ++ l) (flat_map_same f g xs same)

same_pieces : (form : Form) (deck other : Deck) (n : ℕ) → DifferInWork deck other → pieces form other n ≡ pieces form deck n
unfolding pieces
same_pieces form deck other n differ =
    flat_map_same (λ k. piece_at form other (k * other.params.every)) (λ k. piece_at form deck (k * deck.params.every)) (range_with_len 0 n)
    (λ k. ap (λ e. piece_at form other (k * e)) (same_every deck other differ) ∙ same_piece form deck other (k * deck.params.every) differ)

pub outputs_ignore_work : OutputsIgnoreWork
outputs_ignore_work form deck other differ =
    output_in-is form other ∙ ap (λ n. pieces form other n ++ end_of form) (same_count deck other differ)
    ∙ ap (λ l. l ++ end_of form) (same_pieces form deck other (snapshot_count deck) differ) ∙ sym (output_in-is form deck)
