-- What is answered for a job, from what was written and read.
use Rattle.std.proofs.Common.{◌≡◌, ℕ, ◌≤◌, List, length, subst, true, inl, inr, refl, sym, map, string_bytes, Result, Err}
use Rattle.std.specs.Prelude.{Option, String}
use Rattle.std.proofs.KnownBytes.{Appends-nil}
use Rattle.sph_top.proofs.Jobs.{faulty}
use Rattle.sph_words.specs.Jobs.{AnswersWords}
use Rattle.sph_words.specs.declared.fault.WordsRefusal.{WordsRefusal}
use Rattle.sph_words.specs.declared.fault.WordsRefusal.TheVariants.{Fault, Memory}
use Rattle.std.specs.declared.alloc.Global.{Global}
use Rattle.sph_deck.specs.declared.deck.Deck.{Deck}
use Rattle.sph_deck.specs.Faults.{longest_text}
use Rattle.sph_edge.specs.Bytes.{GaveAll}
use Rattle.sph_top.specs.declared.status.Status.{Status}
use Rattle.sph_top.specs.declared.status.Status.TheVariants.{Done, Usage, DeckRefused, ReadFault, WriteFault, NoMemory}
use Rattle.sph_top.specs.Answers.{Change, IsAcceptedDeck, IsWithoutOutput, WasRead, ReadsDeck, Rests}
use Rattle.sph_top.specs.Output.{IsOutputOf, Output, summary, text}
use Rattle.sph_top.specs.Words.{NamesJob, reads_deck}
use Rattle.sph_top.specs.inner.Steps.{Follows, Writes, WritesOutput, WritesSample, status_of}
use Rattle.sph_lattice.specs.LatticeText.{lattice_text}
use Rattle.sph_words.specs.declared.job.Job.{Job}
use Rattle.sph_words.specs.declared.job.Job.TheVariants.{Run, Plain, Check, Tree, Generate, Sample}

-- an output for a deck of one kind is one for a deck of a wider kind
output_weaker : (P Q : Deck → Type 0) → ((deck : Deck) → P deck → Q deck) → (job : Job) (output : Output) → IsOutputOf job P output → IsOutputOf job Q output
output_weaker P Q wider (Run workers) output is = (is.0, wider is.0 is.1, is.2)
output_weaker P Q wider Plain output is = (is.0, wider is.0 is.1, is.2)
output_weaker P Q wider Check output is = (is.0, wider is.0 is.1, is.2)
output_weaker P Q wider Tree output is = (is.0, wider is.0 is.1, is.2)
output_weaker P Q wider (Generate side seed) output is = is
output_weaker P Q wider (Sample side seed workers) output is = is

-- the output of a job that reads a deck is for one
pub output_reads : (P : Deck → Type 0) (job : Job) (output : Output) → reads_deck job ≡ true → IsOutputOf job P output → (deck : Deck) × P deck
output_reads P (Run workers) output reads is = (is.0, is.1)
output_reads P Plain output reads is = (is.0, is.1)
output_reads P Check output reads is = (is.0, is.1)
output_reads P Tree output reads is = (is.0, is.1)
output_reads P (Generate side seed) output reads is = cc
output_reads P (Sample side seed workers) output reads is = cc

writes_weaker : (P Q : Deck → Type 0) → ((deck : Deck) → P deck → Q deck) → (job : Job) (status : Status) (out : Change) → Writes job P status out → Writes job Q status out
writes_weaker P Q wider job status out (inl none) = inl none
writes_weaker P Q wider job status out (inr wrote) = inr (wrote.0, output_weaker P Q wider job wrote.0 wrote.1, wrote.2)

accept : (job : Job) (bytes : List ℕ) (deck : Deck) (status : Status) (out : Change) → IsAcceptedDeck bytes deck
    → Writes job (λ d. d ≡ deck) status out → Writes job (IsAcceptedDeck bytes) status out
accept job bytes deck status out accepted wrote =
    writes_weaker (λ d. d ≡ deck) (IsAcceptedDeck bytes) (λ d is. subst (IsAcceptedDeck bytes) (sym is) accepted) job status out wrote

-- an accepted deck is answered by what came of the job
pub Follows-writes : (job : Job) (bytes : List ℕ) (deck : Deck) (status : Status) (out : Change) → IsAcceptedDeck bytes deck
    → Writes job (λ d. d ≡ deck) status out → Follows job bytes status out
Follows-writes job bytes deck (DeckRefused fault) out accepted (inl none) = let is = none.0 in cc
Follows-writes job bytes deck (DeckRefused fault) out accepted (inr wrote) = absurd wrote.2
Follows-writes job bytes deck Done out accepted wrote = accept job bytes deck Done out accepted wrote
Follows-writes job bytes deck (Usage fault) out accepted wrote = accept job bytes deck (Usage fault) out accepted wrote
Follows-writes job bytes deck ReadFault out accepted wrote = accept job bytes deck ReadFault out accepted wrote
Follows-writes job bytes deck WriteFault out accepted wrote = accept job bytes deck WriteFault out accepted wrote
Follows-writes job bytes deck NoMemory out accepted wrote = accept job bytes deck NoMemory out accepted wrote

-- what was written for a job rests on it
pub Rests-writes : (job : Job) (words : List (String Global)) (source : Change) (status : Status) (out : Change) → NamesJob words job
    → Writes job (ReadsDeck source) status out → Rests status words source out
Rests-writes job words source Done out names (inl none) = let is = none.0 in cc
Rests-writes job words source Done out names (inr wrote) =
    record { output = wrote.0; has = record { job = job; named = names; is = wrote.1 }; appended = wrote.2.0; none_failed = wrote.2.1 }
Rests-writes job words source (Usage fault) out names (inl none) = let is = none.0 in cc
Rests-writes job words source (Usage fault) out names (inr wrote) = absurd wrote.2
Rests-writes job words source (DeckRefused fault) out names (inl none) = let is = none.0 in cc
Rests-writes job words source (DeckRefused fault) out names (inr wrote) = absurd wrote.2
Rests-writes job words source ReadFault out names (inl none) = let is = none.0 in cc
Rests-writes job words source ReadFault out names (inr wrote) = absurd wrote.2
Rests-writes job words source WriteFault out names (inl none) = let is = none.0 in cc
Rests-writes job words source WriteFault out names (inr wrote) =
    (wrote.0, record { job = job; named = names; is = wrote.1 }, wrote.2.0, wrote.2.1)
Rests-writes job words source NoMemory out names (inl none) = (inl none.1.0, none.1.1)
Rests-writes job words source NoMemory out names (inr wrote) =
    (inr (wrote.0, record { job = job; named = names; is = wrote.1 }, wrote.2.0), wrote.2.1)

-- the text of a generated deck, and its summary
pub Rests-text : (side seed : ℕ) (words : List (String Global)) (source : Change) (status : Status) (out : Change) → NamesJob words (Generate side seed)
    → WritesOutput (text (lattice_text side seed)) status out → Rests status words source out
Rests-text side seed words source status out names wrote =
    Rests-writes (Generate side seed) words source status out names (inr (text (lattice_text side seed), refl, wrote))

pub Rests-sample : (side seed workers : ℕ) (words : List (String Global)) (source : Change) (status : Status) (out : Change) → NamesJob words (Sample side seed workers)
    → WritesSample side seed status out → Rests status words source out
Rests-sample side seed workers words source status out names (inl none) =
    Rests-writes (Sample side seed workers) words source status out names (inl none)
Rests-sample side seed workers words source status out names (inr wrote) =
    Rests-writes (Sample side seed workers) words source status out names (inr (summary wrote.0, (wrote.0, wrote.1, refl), wrote.2))

-- A text was read whole for a job that was named.
module _ (job : Job) (words : List (String Global)) (source : Change) (bytes : List ℕ) (names : NamesJob words job) (reader : reads_deck job ≡ true)
    (read : WasRead source bytes) where
  -- an accepted deck of the text was read
  reads : (deck : Deck) → IsAcceptedDeck bytes deck → ReadsDeck source deck
  reads deck accepted = record { bytes = bytes; read = read; deck_is = accepted }

  wrote_rests : (status : Status) (out : Change) → Writes job (IsAcceptedDeck bytes) status out → Rests status words source out
  wrote_rests status out wrote =
      Rests-writes job words source status out names (writes_weaker (IsAcceptedDeck bytes) (ReadsDeck source) reads job status out wrote)

  -- what is answered for the text rests on its being read
  Rests-follows_read : (status : Status) (out : Change) → length bytes ≤ longest_text → Follows job bytes status out
      → Rests status words source out
  Rests-follows_read (DeckRefused fault) out short follows =
      ((job, names, reader), inr (record { bytes = bytes; read = read; short = short; first = follows }))
  Rests-follows_read Done out short follows = wrote_rests Done out follows
  Rests-follows_read (Usage fault) out short follows = wrote_rests (Usage fault) out follows
  Rests-follows_read ReadFault out short follows = wrote_rests ReadFault out follows
  Rests-follows_read WriteFault out short follows = wrote_rests WriteFault out follows
  Rests-follows_read NoMemory out short follows = wrote_rests NoMemory out follows

-- the same for the text as a slice of what was read gives it
pub Rests-follows : (job : Job) (words : List (String Global)) (source out : Change) (bytes given : List ℕ) (status : Status) → NamesJob words job
    → reads_deck job ≡ true → GaveAll source.before.bytes source.after.bytes bytes × (length bytes ≤ longest_text) → source.after.faults ≡ source.before.faults → given ≡ bytes
    → Follows job given status out → Rests status words source out
Rests-follows job words source out bytes given status names reader gave none_failed is follows =
    Rests-follows_read job words source bytes names reader (record { gave = gave.0; none_failed = none_failed }) status out gave.1
    (subst (λ t. Follows job t status out) is follows)

-- what is answered for words that are refused
pub Rests-refused : (words : List (String Global)) (source : Change) (held : Option (List ℕ)) (faults : ℕ) (result : Result Job WordsRefusal) (refusal : WordsRefusal)
    → AnswersWords (map string_bytes words) result → result ≡ Err refusal
    → Rests (status_of refusal) words source (record { before = record { bytes = held; faults = faults }; after = record { bytes = held; faults = faults } })
Rests-refused words source held faults result (Fault fault) answers is = faulty words result fault answers is
Rests-refused words source held faults result Memory answers is = (inl (Appends-nil held), refl)

-- an answer that leaves the output as it was comes with no output
pub unwritten : (output : Output) (status : Status) (out : Change) → WritesOutput output status out → IsWithoutOutput status → ⊥
unwritten output Done out wrote without = without
unwritten output (Usage fault) out wrote without = wrote
unwritten output (DeckRefused fault) out wrote without = wrote
unwritten output ReadFault out wrote without = wrote
unwritten output WriteFault out wrote without = without
unwritten output NoMemory out wrote without = without
