-- The scans of a turn: the queues are looked at in cyclic order from the worker's own.
use Rattle.std.specs.Prelude.{◌≡◌, ℕ, ◌<◌, List, ◌++◌, All, Option, Some, MatchOption, flat_map, length, slice_get}
use Rattle.qs_queues.specs.declared.answers.Scan.{Scan}
use Rattle.qs_queues.specs.declared.answers.Scan.TheVariants.{Got, Held, Empty, AllBusy}
use Rattle.qs_queues.specs.declared.view.QueueNote.{QueueNote}
use Rattle.qs_queues.specs.Calls.{WasAllBusy, WasEmpty, WasGot, WasHeld}
use Rattle.qs_worker.specs.Offers.{queue_at}

-- a scan that was made
pub record Scanned : Type 0 where
  pub queue : ℕ
  pub answer : Scan
  pub notes : List QueueNote

-- the notes of scans, in order
abbrev pub notes_of_scans : List Scanned → List QueueNote
notes_of_scans scans = flat_map (λ (s : Scanned). s.notes) scans

-- a scan took nothing: it answered Held, Empty, or AllBusy, where each entry left behind was refused
abbrev pub TookNone : (ℕ → Type 0) → ℕ → Scan → List QueueNote → Type 0
TookNone refused queue (Got task) notes = ⊥
TookNone refused queue (Held seen) notes = WasHeld queue seen notes
TookNone refused queue Empty notes = WasEmpty queue notes
TookNone refused queue AllBusy notes = WasAllBusy refused queue notes

module _ (refused : ℕ → Type 0) (queues own : ℕ) where
  -- the first queues in cyclic order from the worker's own answered, and nothing was taken
  pub record AreLooked (scans : List Scanned) : Type 0 where
    pub each : All (λ (s : Scanned). TookNone refused s.queue s.answer s.notes) scans
    pub in_order : (k : ℕ) (s : Scanned) → slice_get scans k ≡ Some s → s.queue ≡ queue_at own queues k

  -- each queue answered in this turn, and nothing was taken
  pub record FoundNone (notes : List QueueNote) : Type 0 where
    pub scans : List Scanned
    pub notes_are : notes ≡ notes_of_scans scans
    pub every : length scans ≡ queues
    pub looked : AreLooked scans

  -- some queues took nothing, and the next gave the task
  pub record FoundOne (task : ℕ) (notes : List QueueNote) : Type 0 where
    pub scans : List Scanned
    pub last : List QueueNote
    pub notes_are : notes ≡ notes_of_scans scans ++ last
    pub few : length scans < queues
    pub looked : AreLooked scans
    pub got : WasGot refused (queue_at own queues (length scans)) task last

  -- what was found
  abbrev pub Found : Option ℕ → List QueueNote → Type 0
  Found found notes = MatchOption found (FoundNone notes) (λ task. FoundOne task notes)
