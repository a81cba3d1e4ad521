-- What a call on a queue says by its notes: one lock, and one unlock where the lock saw 0.
use Rattle.std.specs.Prelude.{◌≡◌, ◌≢◌, ℕ, ◌<◌, List, [], ◌∷◌, length, Option, Some, None}
use Rattle.qs_heap.specs.declared.entry.Entry.{Entry}
use Rattle.qs_heap.specs.Entries.{AddsEntry}
use Rattle.qs_heap.specs.Scans.{AllRefused, TakesFirst, TriesOnce}
use Rattle.qs_queues.specs.declared.view.QueueNote.{QueueNote}
use Rattle.qs_queues.specs.declared.view.QueueNote.TheVariants.{Locked, Unlocked}
use Rattle.qs_queues.specs.declared.view.QueueView.{QueueView}
use Rattle.qs_queues.specs.declared.answers.Push.{Push}
use Rattle.qs_queues.specs.declared.answers.Push.TheVariants as push
use Rattle.qs_queues.specs.declared.answers.Scan.{Scan}
use Rattle.qs_queues.specs.declared.answers.Scan.TheVariants as scan
use Rattle.qs_queues.specs.Views.{with_notes}

-- what a call made: further notes, of which this is said
pub record Noted (says : List QueueNote → Type 0) (before after : QueueView) : Type 0 where
  pub further : List QueueNote
  pub is : after ≡ with_notes before further
  pub said : says further

-- the notes of a call that held the queue
abbrev pub hold_notes : ℕ → ℕ → List Entry → List Entry → List QueueNote
hold_notes queue number found left = Locked queue 0 ∷ Unlocked queue number found left ∷ []

-- the queue was held at the one lock
pub record WasHeld (queue seen : ℕ) (notes : List QueueNote) : Type 0 where
  pub seen_is : seen ≡ 1
  pub notes_are : notes ≡ Locked queue seen ∷ []

-- there was room, and the entries found were left behind with just this one added
pub record WasIn (room queue : ℕ) (entry : Entry) (notes : List QueueNote) : Type 0 where
  pub number : ℕ
  pub found : List Entry
  pub left : List Entry
  pub notes_are : notes ≡ hold_notes queue number found left
  pub had_room : length found < room
  pub added : AddsEntry entry found left

-- as many entries were found as there is room for, and left behind as found
pub record WasFull (room queue : ℕ) (notes : List QueueNote) : Type 0 where
  pub number : ℕ
  pub found : List Entry
  pub notes_are : notes ≡ hold_notes queue number found found
  pub full : length found ≡ room

-- what a push says
abbrev pub SaysPush : ℕ → ℕ → Entry → Push → List QueueNote → Type 0
SaysPush room queue entry push.In notes = WasIn room queue entry notes
SaysPush room queue entry (push.Held seen) notes = WasHeld queue seen notes
SaysPush room queue entry push.Full notes = WasFull room queue notes

-- the entries found were left behind without the first that wasn't refused, which is of the task
pub record WasGot (refused : ℕ → Type 0) (queue task : ℕ) (notes : List QueueNote) : Type 0 where
  pub number : ℕ
  pub found : List Entry
  pub left : List Entry
  pub notes_are : notes ≡ hold_notes queue number found left
  pub taken : TakesFirst refused task found left

-- no entry was found, and none left behind
pub record WasEmpty (queue : ℕ) (notes : List QueueNote) : Type 0 where
  pub number : ℕ
  pub notes_are : notes ≡ hold_notes queue number [] []

-- entries were found, each was refused, and they were left behind as found
pub record WasAllBusy (refused : ℕ → Type 0) (queue : ℕ) (notes : List QueueNote) : Type 0 where
  pub number : ℕ
  pub found : List Entry
  pub notes_are : notes ≡ hold_notes queue number found found
  pub some : found ≢ []
  pub refusals : AllRefused refused found

-- what a scan says, where the trial has then refused these tasks and taken this one
abbrev pub SaysScan : (ℕ → Type 0) → Option ℕ → ℕ → Scan → List QueueNote → Type 0
SaysScan refused taken queue (scan.Got task) notes = (taken ≡ Some task) × WasGot refused queue task notes
SaysScan refused taken queue (scan.Held seen) notes = (taken ≡ None) × WasHeld queue seen notes
SaysScan refused taken queue scan.Empty notes = (taken ≡ None) × WasEmpty queue notes
SaysScan refused taken queue scan.AllBusy notes = (taken ≡ None) × WasAllBusy refused queue notes

-- the entries that a hold found were tried just once each, up to the one that was taken
pub record TriesFound (refused : ℕ → Type 0) (taken : Option ℕ) (queue old new : ℕ) (notes : List QueueNote) : Type 0 where
  pub number : ℕ
  pub found : List Entry
  pub left : List Entry
  pub notes_are : notes ≡ hold_notes queue number found left
  pub tried : TriesOnce refused taken found old new

-- how often a scan tried: not at all where the queue was held or empty
abbrev pub SaysTries : (ℕ → Type 0) → ℕ → Scan → ℕ → ℕ → List QueueNote → Type 0
SaysTries refused queue (scan.Got task) old new notes = TriesFound refused (Some task) queue old new notes
SaysTries refused queue (scan.Held seen) old new notes = (new ≡ old) × WasHeld queue seen notes
SaysTries refused queue scan.Empty old new notes = (new ≡ old) × WasEmpty queue notes
SaysTries refused queue scan.AllBusy old new notes = TriesFound refused None queue old new notes
