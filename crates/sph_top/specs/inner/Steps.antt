-- What the steps of the top call say of each other: the output, the answer before its line, and the line.
use Rattle.std.specs.Prelude.{◌≡◌, ℕ, ◌≤◌, ◌⊎◌, List, [], ⊤}
use Rattle.std.specs.Io.KnownBytes.{Appends}
use Rattle.sph_deck.specs.declared.deck.Deck.{Deck}
use Rattle.sph_deck.specs.FirstFault.{IsFirstFault}
use Rattle.sph_lattice.specs.Lattice.{IsSide}
use Rattle.sph_edge.specs.Bytes.{AppendsPrefix}
use Rattle.sph_edge.specs.Causes.{Rose}
use Rattle.sph_report.specs.DeckLines.{NamesKey}
use Rattle.sph_run.specs.declared.form.Form.{Form}
use Rattle.sph_run.specs.declared.form.Form.TheVariants.{Snapshots, Summary}
use Rattle.sph_run.specs.declared.form.RunEnd.{RunEnd}
use Rattle.sph_run.specs.declared.form.RunEnd.TheVariants as end
use Rattle.sph_top.specs.declared.status.Status.{Status}
use Rattle.sph_top.specs.declared.status.Status.TheVariants.{Done, Usage, DeckRefused, WriteFault, NoMemory}
use Rattle.sph_top.specs.Answers.{Change, IsAcceptedDeck}
use Rattle.sph_top.specs.Lines.{error_line}
use Rattle.sph_top.specs.Output.{AppendsPieces, IsLattice, IsOutputOf, Output, bytes_of, stream, summary}
use Rattle.sph_words.specs.declared.fault.WordsRefusal.{WordsRefusal}
use Rattle.sph_words.specs.declared.fault.WordsRefusal.TheVariants.{Fault, Memory}
use Rattle.sph_words.specs.declared.job.Job.{Job}
use Rattle.sph_words.specs.declared.job.Job.TheVariants.{Run, Generate, Sample}

-- the answer to words that are refused
abbrev pub status_of : WordsRefusal → Status
status_of (Fault fault) = Usage fault
status_of Memory = NoMemory

-- so many workers may run a graph
pub record AreWorkers (workers : ℕ) : Type 0 where
  pub some : 1 ≤ workers
  pub most : workers ≤ 64

-- a job's numbers are in their ranges
abbrev pub HasNumbers : Job → Type 0
HasNumbers (Run workers) = AreWorkers workers
HasNumbers (Generate side seed) = IsSide side
HasNumbers (Sample side seed workers) = IsSide side × AreWorkers workers
HasNumbers _ = ⊤

-- what the answer says of an output: written whole at Done, some first bytes at a write fault, some whole pieces where memory ran
-- out; and a call failed just at a write fault
abbrev pub WritesOutput : Output → Status → Change → Type 0
WritesOutput output Done out = Appends out.before.bytes out.after.bytes (bytes_of output) × (out.after.faults ≡ out.before.faults)
WritesOutput output WriteFault out = Rose out.before.faults out.after.faults × AppendsPrefix out.before.bytes out.after.bytes (bytes_of output)
WritesOutput output NoMemory out = AppendsPieces output out.before.bytes out.after.bytes × (out.after.faults ≡ out.before.faults)
WritesOutput output _ out = ⊥

-- the answer at the end of a run
abbrev pub status_at : RunEnd → Status
status_at end.Done = Done
status_at end.WriteFault = WriteFault
status_at end.Memory = NoMemory

-- the output of a run in each form
abbrev pub run_output : Form → Deck → Output
run_output Snapshots deck = stream deck
run_output Summary deck = summary deck

-- nothing was appended, and no call failed
abbrev pub WritesNothing : Change → Type 0
WritesNothing out = Appends out.before.bytes out.after.bytes [] × (out.after.faults ≡ out.before.faults)

-- the same of the summary of a generated deck; where memory ran out, nothing may have been written
abbrev pub WritesSample : ℕ → ℕ → Status → Change → Type 0
WritesSample side seed status out =
    ((status ≡ NoMemory) × WritesNothing out)
    ⊎ ((deck : Deck) × IsLattice side seed deck × WritesOutput (summary deck) status out)

-- the same of the job's output; where memory ran out, nothing may have been written
abbrev pub Writes : Job → (Deck → Type 0) → Status → Change → Type 0
Writes job reads status out =
    ((status ≡ NoMemory) × WritesNothing out)
    ⊎ ((output : Output) × IsOutputOf job reads output × WritesOutput output status out)

-- what the answer says of a text that was read whole, and what came of the job
abbrev pub Follows : Job → List ℕ → Status → Change → Type 0
Follows job bytes (DeckRefused fault) out = IsFirstFault bytes fault
Follows job bytes status out = Writes job (IsAcceptedDeck bytes) status out

-- the key that a refused deck's line names is one
abbrev pub NamesItsKey : Status → Type 0
NamesItsKey (DeckRefused fault) = NamesKey fault
NamesItsKey _ = ⊤

-- the answer's line stands on `err`; or `err` failed, so that some first bytes of it stand there, and the answer is a write fault
abbrev pub IsTold : Status → Status → Change → Type 0
IsTold status result err =
    ((result ≡ status) × Appends err.before.bytes err.after.bytes (error_line status) × (err.after.faults ≡ err.before.faults))
    ⊎ ((status ≡ Done → ⊥) × (result ≡ WriteFault) × Rose err.before.faults err.after.faults × AppendsPrefix err.before.bytes err.after.bytes (error_line status))

-- the answers whose line takes memory
abbrev pub HasMadeLine : Status → Type 0
HasMadeLine (Usage fault) = ⊤
HasMadeLine (DeckRefused fault) = ⊤
HasMadeLine _ = ⊥

-- the answer was told; or there was no memory for its line, and that was told
abbrev pub Reports : Status → Status → Change → Type 0
Reports status result err =
    IsTold status result err
    ⊎ (HasMadeLine status × IsTold NoMemory result err)
