-- What follows from that on which an answer rests, before its line is written.
use Rattle.std.proofs.Common.{◌≡◌, ℕ, ◌+◌, ◌<◌, List, [], ◌++◌, length, refl, sym, ap, true, ◌∙◌, subst, inl, inr, ◌⊎◌, arith, append-nil, length-append}
use Rattle.std.specs.Prelude.{Option, None, Some, String}
use Rattle.std.specs.declared.alloc.Global.{Global}
use Rattle.std.specs.Io.KnownBytes.{Appends, Consumes, IsAtEnd}
use Rattle.std.proofs.KnownBytes.{Appends-nil}
use Rattle.sph_deck.specs.declared.deck.Deck.{Deck}
use Rattle.sph_deck.specs.declared.fault.DeckFault.{DeckFault}
use Rattle.sph_deck.specs.Faults.{IsAccepted, longest_text}
use Rattle.sph_deck.specs.FirstFault.{IsFirstFault}
use Rattle.sph_report.specs.DeckLines.{NamesKey}
use Rattle.sph_edge.specs.Bytes.{GaveAll}
use Rattle.sph_edge.specs.Causes.{Rose, Stayed}
use Rattle.sph_edge.specs.Whole.{GaveTooMuch}
use Rattle.sph_top.specs.declared.status.Status.{Status}
use Rattle.sph_deck.specs.declared.fault.DeckFault.TheVariants.{TooLong}
use Rattle.sph_top.specs.declared.status.Status.TheVariants.{Done, Usage, DeckRefused, ReadFault, WriteFault, NoMemory}
use Rattle.sph_top.specs.Answers.{Change, IsAcceptedDeck, WasRead, ReadsDeck, HasAcceptedDeck, HasOutput, IsDeckFaulty, IsDeckTooLong, AppendsSome, AppendsToAnEnd, IsWithoutFault, IsWithoutOutput, Rests, Seen}
use Rattle.sph_top.specs.Output.{Output}
use Rattle.sph_top.specs.inner.Steps.{HasMadeLine, NamesItsKey}
use Rattle.sph_top.specs.Words.{HasWordsFault, NamesAJob, NamesAReader, reads_deck}
use Rattle.sph_words.specs.declared.fault.WordsFault.{WordsFault}
use Rattle.sph_deck.proofs.FirstFaults.{IsFirstFault-unique, first_too_long}
use Rattle.sph_top.proofs.NamedKeys.{NamesKey-stands}
use Rattle.sph_top.proofs.Jobs.{named_no_fault, reader_names, same_fault, same_job}
use Rattle.sph_top.proofs.Texts.{output_reads}
use Rattle.sph_top.proofs.Streams.{AppendsPrefix-pieces}

-- a count that stayed did not rise
pub stayed_not_rose : (before now : ℕ) → Stayed before now → Rose before now → ⊥
stayed_not_rose before now stayed rose = omega arith

-- what a source gave to its end is what it had
GaveAll-same_of : (bytes given : List ℕ) (after : Option (List ℕ)) → Consumes (Some bytes) after given → IsAtEnd after → given ≡ bytes
GaveAll-same_of bytes given None gave ended = absurd gave
GaveAll-same_of bytes given (Some rest) gave ended = sym (gave ∙ ap (λ l. given ++ l) ended ∙ append-nil given)

GaveAll-same : (before after : Option (List ℕ)) (bytes given : List ℕ) → before ≡ Some bytes → GaveAll before after given → given ≡ bytes
GaveAll-same before after bytes given has gave =
    GaveAll-same_of bytes given after (subst (λ b. Consumes b after given) has gave.gave) gave.ended

-- a source that gave too much had too much
GaveTooMuch-long_of : (limit : ℕ) (bytes given : List ℕ) (after : Option (List ℕ)) → Consumes (Some bytes) after given → length given ≡ limit + 1 → limit < length bytes
GaveTooMuch-long_of limit bytes given None gave past = absurd gave
GaveTooMuch-long_of limit bytes given (Some rest) gave past = omega (arith, length-append given rest, ap length gave)

GaveTooMuch-long : (limit : ℕ) (before after : Option (List ℕ)) (bytes : List ℕ) → before ≡ Some bytes → GaveTooMuch limit before after → limit < length bytes
GaveTooMuch-long limit before after bytes has gave =
    GaveTooMuch-long_of limit bytes gave.bytes after (subst (λ b. Consumes b after gave.bytes) has gave.gave) gave.past

-- whole pieces of the output are some first bytes of it
AppendsSome-to_an_end : (words : List (String Global)) (source out : Change) → AppendsToAnEnd words source out
    → AppendsSome words source out
AppendsSome-to_an_end words source out (inl none) = inl none
AppendsSome-to_an_end words source out (inr some) =
    inr (some.0, some.1, AppendsPrefix-pieces some.0 out.before.bytes out.after.bytes some.2)

-- a sink that stays as it was gets nothing
Appends-same : (out : Change) → out.after ≡ out.before → Appends out.before.bytes out.after.bytes []
Appends-same out same = subst (λ (o : Seen). Appends out.before.bytes o.bytes []) (sym same) (Appends-nil out.before.bytes)

-- what was appended before any answer but Done
pub AppendsSome-rests : (status : Status) (words : List (String Global)) (source out : Change) → (status ≡ Done → ⊥)
    → (IsWithoutOutput status → out.after ≡ out.before) → Rests status words source out → AppendsSome words source out
AppendsSome-rests Done words source out undone same rests = absurd (undone refl)
AppendsSome-rests (Usage fault) words source out undone same rests = inl (Appends-same out (same tt))
AppendsSome-rests (DeckRefused fault) words source out undone same rests = inl (Appends-same out (same tt))
AppendsSome-rests ReadFault words source out undone same rests = inl (Appends-same out (same tt))
AppendsSome-rests WriteFault words source out undone same rests = inr (rests.0, rests.1, rests.3)
AppendsSome-rests NoMemory words source out undone same rests = AppendsSome-to_an_end words source out rests.0

-- the answers whose line takes memory leave the output as it was
made_without : (status : Status) → HasMadeLine status → IsWithoutOutput status
made_without (Usage fault) made = tt
made_without (DeckRefused fault) made = tt
made_without Done made = absurd made
made_without ReadFault made = absurd made
made_without WriteFault made = absurd made
made_without NoMemory made = absurd made

-- and they tell no fault of a device
pub made_without_fault : (status : Status) → HasMadeLine status → IsWithoutFault status
made_without_fault (Usage fault) made = tt
made_without_fault (DeckRefused fault) made = tt
made_without_fault Done made = absurd made
made_without_fault ReadFault made = absurd made
made_without_fault WriteFault made = absurd made
made_without_fault NoMemory made = absurd made

-- where no fault of a device is told, no call of `out` failed
pub out_kept : (status : Status) (words : List (String Global)) (source out : Change) → IsWithoutFault status
    → (IsWithoutOutput status → out.after ≡ out.before) → Rests status words source out → out.after.faults ≡ out.before.faults
out_kept Done words source out none same rests = rests.none_failed
out_kept (Usage fault) words source out none same rests = ap (λ (o : Seen). o.faults) (same tt)
out_kept (DeckRefused fault) words source out none same rests = ap (λ (o : Seen). o.faults) (same tt)
out_kept ReadFault words source out none same rests = absurd none
out_kept WriteFault words source out none same rests = absurd none
out_kept NoMemory words source out none same rests = rests.1

-- where there was no memory for such a line, nothing was appended
pub NoMemory-made : (status : Status) (words : List (String Global)) (source out : Change) → HasMadeLine status
    → (IsWithoutOutput status → out.after ≡ out.before) → Rests NoMemory words source out
NoMemory-made status words source out made same =
    let is = same (made_without status made) in
    (inl (Appends-same out is), ap (λ (o : Seen). o.faults) is)

-- a refused deck's fault names its key
NamesKey-refused : (fault : DeckFault) (source : Change) → ((fault ≡ TooLong) × IsDeckTooLong source) ⊎ IsDeckFaulty fault source → NamesKey fault
NamesKey-refused fault source (inl long) = subst NamesKey (sym long.0) tt
NamesKey-refused fault source (inr faulty) = NamesKey-stands faulty.bytes fault faulty.first.stands

pub NamesItsKey-rests : (status : Status) (words : List (String Global)) (source out : Change) → Rests status words source out
    → NamesItsKey status
NamesItsKey-rests (DeckRefused fault) words source out rests = NamesKey-refused fault source rests.1
NamesItsKey-rests _ words source out rests = tt

-- Where the source tells its bytes and no read failed, the answer is that of these bytes.
module _ (source : Change) (bytes : List ℕ) (has : source.before.bytes ≡ Some bytes) where
  -- the bytes that were read
  same : (given : List ℕ) → WasRead source given → given ≡ bytes
  same given read = GaveAll-same source.before.bytes source.after.bytes bytes given has read.gave

  -- an accepted deck that was read is that of the bytes
  deck_of : (deck : Deck) → ReadsDeck source deck → IsAcceptedDeck bytes deck
  deck_of deck reads = subst (λ l. IsAcceptedDeck l deck) (same reads.bytes reads.read) reads.deck_is

  -- the fault for which the deck was refused is the first of the bytes
  fault_of : (fault : DeckFault) → ((fault ≡ TooLong) × IsDeckTooLong source) ⊎ IsDeckFaulty fault source → IsFirstFault bytes fault
  fault_of fault (inl long) =
      subst (IsFirstFault bytes) (sym long.0) (first_too_long bytes (GaveTooMuch-long longest_text source.before.bytes source.after.bytes bytes has long.1.gave))
  fault_of fault (inr faulty) = subst (λ l. IsFirstFault l fault) (same faulty.bytes faulty.read) faulty.first

  -- the output of a job that reads a deck is for an accepted one
  accepted_output : (words : List (String Global)) (output : Output) → NamesAReader words → HasOutput words source output → IsAccepted bytes
  accepted_output words output reader of =
      let reads : reads_deck of.job ≡ true = ap reads_deck (same_job words of.job reader.0 of.named reader.1) ∙ reader.2 in
      let deck = output_reads (ReadsDeck source) of.job output reads of.is in
      (deck_of deck.0 deck.1).accepted

-- a text with a first fault is refused for it
pub refused : (words : List (String Global)) (source out : Change) → NamesAReader words → (bytes : List ℕ) → source.before.bytes ≡ Some bytes
    → Stayed source.before.faults source.after.faults → (status : Status) → Rests status words source out → (fault : DeckFault) → IsFirstFault bytes fault
    → (status ≡ DeckRefused fault) ⊎ (status ≡ NoMemory)
refused words source out reader bytes has stayed Done rests fault first =
    absurd (accepted_output source bytes has words rests.output reader rests.has fault first.stands)
refused words source out reader bytes has stayed (Usage other) rests fault first =
    absurd (named_no_fault words other (reader_names words reader) rests)
refused words source out reader bytes has stayed (DeckRefused other) rests fault first =
    inl (ap DeckRefused (IsFirstFault-unique bytes other fault (fault_of source bytes has other rests.1) first))
refused words source out reader bytes has stayed ReadFault rests fault first = absurd (stayed_not_rose source.before.faults source.after.faults stayed rests.1)
refused words source out reader bytes has stayed WriteFault rests fault first =
    absurd (accepted_output source bytes has words rests.0 reader rests.1 fault first.stands)
refused words source out reader bytes has stayed NoMemory rests fault first = inr refl

-- words with a fault are refused for it
pub usage : (words : List (String Global)) (source out : Change) (fault : WordsFault) → HasWordsFault words fault
    → (status : Status) → Rests status words source out → (status ≡ Usage fault) ⊎ (status ≡ NoMemory)
usage words source out fault has Done rests = absurd (named_no_fault words fault (rests.has.job, rests.has.named) has)
usage words source out fault has (Usage other) rests = inl (ap Usage (same_fault words other fault rests has))
usage words source out fault has (DeckRefused other) rests = absurd (named_no_fault words fault (reader_names words rests.0) has)
usage words source out fault has ReadFault rests = absurd (named_no_fault words fault (reader_names words rests.0) has)
usage words source out fault has WriteFault rests = absurd (named_no_fault words fault (rests.1.job, rests.1.named) has)
usage words source out fault has NoMemory rests = inr refl

-- the job is done on an accepted deck where it reads one, where no write failed
pub job_done : (words : List (String Global)) (source out : Change) → NamesAJob words → (NamesAReader words → HasAcceptedDeck source)
    → Stayed out.before.faults out.after.faults → (status : Status) → Rests status words source out → (status ≡ Done) ⊎ (status ≡ NoMemory)
job_done words source out job input kept Done rests = inl refl
job_done words source out job input kept (Usage fault) rests = absurd (named_no_fault words fault job rests)
job_done words source out job input kept (DeckRefused fault) rests =
    let deck = input rests.0 in
    absurd (deck.accepted fault (fault_of source deck.bytes deck.left fault rests.1).stands)
job_done words source out job input kept ReadFault rests = absurd (stayed_not_rose source.before.faults source.after.faults (input rests.0).stayed rests.1)
job_done words source out job input kept WriteFault rests = absurd (stayed_not_rose out.before.faults out.after.faults kept rests.2)
job_done words source out job input kept NoMemory rests = inr refl
