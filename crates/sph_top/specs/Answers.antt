-- What each answer of the top call says of the words, of the bytes that came and of those that went.
use Rattle.std.specs.Prelude.{◌≡◌, ◌≢◌, ℕ, ◌≤◌, ◌⊎◌, List, [], length, Option, Some, String, ⊤}
use Rattle.std.specs.declared.alloc.Global.{Global}
use Rattle.std.specs.Io.KnownBytes.{Appends}
use Rattle.sph_deck.specs.declared.deck.Deck.{Deck}
use Rattle.sph_deck.specs.declared.fault.DeckFault.{DeckFault}
use Rattle.sph_deck.specs.declared.fault.DeckFault.TheVariants.{TooLong}
use Rattle.sph_deck.specs.Faults.{IsAccepted, IsDeckOf, longest_text}
use Rattle.sph_deck.specs.FirstFault.{IsFirstFault}
use Rattle.sph_edge.specs.Bytes.{GaveAll, AppendsPrefix}
use Rattle.sph_edge.specs.Causes.{Rose, Stayed}
use Rattle.sph_edge.specs.Whole.{GaveTooMuch}
use Rattle.sph_top.specs.declared.status.Status.{Status}
use Rattle.sph_top.specs.declared.status.Status.TheVariants.{Done, Usage, DeckRefused, ReadFault, WriteFault, NoMemory}
use Rattle.sph_top.specs.Lines.{error_line}
use Rattle.sph_top.specs.Output.{AppendsPieces, IsOutputOf, Output, bytes_of}
use Rattle.sph_top.specs.Words.{HasWordsFault, NamesAReader, NamesJob}
use Rattle.sph_words.specs.declared.job.Job.{Job}

-- a device at a moment: the bytes that it has left or holds, where it tells them, and its count of faults
pub record Seen : Type 0 where
  pub bytes : Option (List ℕ)
  pub faults : ℕ

-- a device as it stands, by what tells its bytes and its count of faults
abbrev pub seen : {D : Type 0} → (D → Option (List ℕ)) → (D → ℕ) → D → Seen
seen bytes faults device = record { bytes = bytes device; faults = faults device }

-- a device before and after a call
pub record Change : Type 0 where
  pub before : Seen
  pub after : Seen

-- the same, by what tells of it
abbrev pub change : {D : Type 0} → (D → Option (List ℕ)) → (D → ℕ) → D → D → Change
change bytes faults old new = record { before = seen bytes faults old; after = seen bytes faults new }

-- these bytes were read to their end without a failure
pub record WasRead (source : Change) (bytes : List ℕ) : Type 0 where
  pub gave : GaveAll source.before.bytes source.after.bytes bytes
  pub none_failed : source.after.faults ≡ source.before.faults

-- an accepted deck and its numbers
pub record IsAcceptedDeck (bytes : List ℕ) (deck : Deck) : Type 0 where
  pub accepted : IsAccepted bytes
  pub numbers : IsDeckOf bytes deck

-- an accepted deck was read to its end
pub record ReadsDeck (source : Change) (deck : Deck) : Type 0 where
  pub bytes : List ℕ
  pub read : WasRead source bytes
  pub deck_is : IsAcceptedDeck bytes deck

-- the output of the job that was named, on the deck that was read where it reads one
pub record HasOutput (words : List (String Global)) (source : Change) (output : Output) : Type 0 where
  pub job : Job
  pub named : NamesJob words job
  pub is : IsOutputOf job (ReadsDeck source) output

-- Done: the whole input was read where the job reads one, and the whole output was appended by calls none of which failed
pub record IsDone (words : List (String Global)) (source out : Change) : Type 0 where
  pub output : Output
  pub has : HasOutput words source output
  pub appended : Appends out.before.bytes out.after.bytes (bytes_of output)
  pub none_failed : out.after.faults ≡ out.before.faults

-- the deck is longer than a deck may be: no more was read than shows it
pub record IsDeckTooLong (source : Change) : Type 0 where
  pub gave : GaveTooMuch longest_text source.before.bytes source.after.bytes
  pub none_failed : source.after.faults ≡ source.before.faults

-- the deck, which isn't too long, was read to its end, and this is its first fault
pub record IsDeckFaulty (fault : DeckFault) (source : Change) : Type 0 where
  pub bytes : List ℕ
  pub read : WasRead source bytes
  pub short : length bytes ≤ longest_text
  pub first : IsFirstFault bytes fault

-- a job that reads a deck was named, and the deck is refused for its first fault
abbrev pub IsDeckRefused : DeckFault → List (String Global) → Change → Type 0
IsDeckRefused fault words source =
    NamesAReader words × (((fault ≡ TooLong) × IsDeckTooLong source) ⊎ IsDeckFaulty fault source)

-- the source has an accepted deck left, and no read of it fails
pub record HasAcceptedDeck (source : Change) : Type 0 where
  pub bytes : List ℕ
  pub left : source.before.bytes ≡ Some bytes
  pub accepted : IsAccepted bytes
  pub stayed : Stayed source.before.faults source.after.faults

-- nothing was appended, or some first bytes of the job's output
abbrev pub AppendsSome : List (String Global) → Change → Change → Type 0
AppendsSome words source out =
    Appends out.before.bytes out.after.bytes []
    ⊎ ((output : Output) × HasOutput words source output × AppendsPrefix out.before.bytes out.after.bytes (bytes_of output))

-- the same, where those first bytes end behind a snapshot or a line
abbrev pub AppendsToAnEnd : List (String Global) → Change → Change → Type 0
AppendsToAnEnd words source out =
    Appends out.before.bytes out.after.bytes []
    ⊎ ((output : Output) × HasOutput words source output × AppendsPieces output out.before.bytes out.after.bytes)

-- what each answer rests on, before its line is written: the words, the bytes that came and those that went, or a count that rose
abbrev pub Rests : Status → List (String Global) → Change → Change → Type 0
Rests Done words source out = IsDone words source out
Rests (Usage fault) words source out = HasWordsFault words fault
Rests (DeckRefused fault) words source out = IsDeckRefused fault words source
Rests ReadFault words source out = NamesAReader words × Rose source.before.faults source.after.faults
Rests WriteFault words source out =
    (output : Output) × HasOutput words source output × Rose out.before.faults out.after.faults × AppendsPrefix out.before.bytes out.after.bytes (bytes_of output)
Rests NoMemory words source out = AppendsToAnEnd words source out × (out.after.faults ≡ out.before.faults)

-- the answers that leave the output as it was
abbrev pub IsWithoutOutput : Status → Type 0
IsWithoutOutput (Usage fault) = ⊤
IsWithoutOutput (DeckRefused fault) = ⊤
IsWithoutOutput ReadFault = ⊤
IsWithoutOutput _ = ⊥

-- the answers that tell no fault of a device
abbrev pub IsWithoutFault : Status → Type 0
IsWithoutFault ReadFault = ⊥
IsWithoutFault WriteFault = ⊥
IsWithoutFault _ = ⊤

-- A write fault comes only where the count of a sink rose. Its whole line stands on `err`, unless `err` itself failed: then there
-- are some first bytes of that line, or of the line of the refusal that it replaced, which rests on something of its own.
abbrev pub TellsWriteFault : List (String Global) → Change → Change → Change → Type 0
TellsWriteFault words source out err =
    (Rose out.before.faults out.after.faults × Appends err.before.bytes err.after.bytes (error_line WriteFault))
    ⊎ (Rose err.before.faults err.after.faults × (status : Status) × (status ≢ Done) × Rests status words source out × AppendsPrefix err.before.bytes err.after.bytes (error_line status))

-- the answer is the wanted one, unless memory ran out or `err` failed
abbrev pub Yields : Status → Status → Change → Type 0
Yields wanted result err =
    (result ≡ wanted) ⊎ (result ≡ NoMemory) ⊎ ((result ≡ WriteFault) × Rose err.before.faults err.after.faults)
