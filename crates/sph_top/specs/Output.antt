-- What the jobs write.
use Rattle.std.specs.Prelude.{◌≡◌, ℕ, ◌⊎◌, List, [], Option}
use Rattle.std.specs.Io.KnownBytes.{Appends}
use Rattle.sph_deck.specs.declared.deck.Deck.{Deck}
use Rattle.sph_lattice.specs.Lattice.{lattice_params, lattice_particles}
use Rattle.sph_lattice.specs.LatticeText.{lattice_text}
use Rattle.sph_report.specs.CheckLine.{check_line}
use Rattle.sph_report.specs.TreeLines.{tree_lines}
use Rattle.sph_run.specs.Stream.{AppendsLines, AppendsSnapshots, deck_stream, deck_summary}
use Rattle.sph_words.specs.declared.job.Job.{Job}
use Rattle.sph_words.specs.declared.job.Job.TheVariants.{Run, Plain, Check, Tree, Generate, Sample}

-- the stream of a deck's run, the lines of its summary, or a text
pub data Output : Type 0 where
  stream : Deck → Output
  summary : Deck → Output
  text : List ℕ → Output

-- the bytes of an output
abbrev pub bytes_of : Output → List ℕ
bytes_of (stream deck) = deck_stream deck
bytes_of (summary deck) = deck_summary deck
bytes_of (text bytes) = bytes

-- some first bytes of the output were appended, which end behind a snapshot, a line or the text
abbrev pub AppendsPieces : Output → Option (List ℕ) → Option (List ℕ) → Type 0
AppendsPieces (stream deck) before after = AppendsSnapshots deck before after
AppendsPieces (summary deck) before after = AppendsLines deck before after
AppendsPieces (text bytes) before after = Appends before after [] ⊎ Appends before after bytes

-- the deck of a lattice with so many sites on an edge, drawn from a seed
pub record IsLattice (side seed : ℕ) (deck : Deck) : Type 0 where
  pub params : deck.params ≡ lattice_params seed
  pub particles : deck.particles ≡ lattice_particles side seed

-- the output of a job; `reads` says which deck was read
abbrev pub IsOutputOf : Job → (Deck → Type 0) → Output → Type 0
IsOutputOf (Run workers) reads output = (deck : Deck) × reads deck × (output ≡ stream deck)
IsOutputOf Plain reads output = (deck : Deck) × reads deck × (output ≡ stream deck)
IsOutputOf Check reads output = (deck : Deck) × reads deck × (output ≡ text (check_line deck))
IsOutputOf Tree reads output = (deck : Deck) × reads deck × (output ≡ text (tree_lines deck))
IsOutputOf (Generate side seed) reads output = output ≡ text (lattice_text side seed)
IsOutputOf (Sample side seed workers) reads output = (deck : Deck) × IsLattice side seed deck × (output ≡ summary deck)
