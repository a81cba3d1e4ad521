-- A hold of a queue, from the lock to the unlock.
use Rattle.std.specs.Prelude.{◌≡◌, ◌≢◌, ℕ, ◌<◌, List, [], ◌∷◌, length, Option, Some, None}
use Rattle.qs_heap.specs.declared.entry.Entry.{Entry}
use Rattle.qs_heap.specs.Entries.{AddsEntry}
use Rattle.qs_heap.specs.Heap.{Heap}
use Rattle.qs_heap.specs.Scans.{AllRefused, TakesFirst, TriesOnce}
use Rattle.qs_queues.specs.declared.answers.Push.{Push}
use Rattle.qs_queues.specs.declared.answers.Push.TheVariants as push
use Rattle.qs_queues.specs.declared.answers.Scan.{Scan}
use Rattle.qs_queues.specs.declared.answers.Scan.TheVariants as scan
use Rattle.qs_queues.specs.declared.view.Held.{Held}
use Rattle.qs_queues.specs.declared.view.QueueNote.TheVariants.{Locked}
use Rattle.qs_queues.specs.Rule.{IsRightHeap}
use Rattle.qs_queues.specs.Views.{with_note}
use Rattle.qs_queues.specs.inner.Plays.{Mine}

-- the seat holds no queue, and carries no heap
abbrev pub IsEmptyHanded : Mine → Type 0
IsEmptyHanded me = (me.0.held ≡ None) × (me.1 ≡ [])

-- the seat locked a free queue, and its heap was handed out
pub record GotHeap (queue : ℕ) (me : Mine) (heap : Heap) (me' : Mine) : Type 0 where
  pub hold : Held
  pub after : me' ≡ (with_note me.0 (Some hold) (Locked queue 0), (queue, None) ∷ [])
  pub of_queue : hold.queue ≡ queue
  pub found : hold.found ≡ heap.entries
  pub right : IsRightHeap me.0.room me.0.tasks heap

-- the queue was held
pub record IsHeldOff (queue : ℕ) (me : Mine) (seen : ℕ) (me' : Mine) : Type 0 where
  pub seen_is : seen ≡ 1
  pub after : me' ≡ (with_note me.0 me.0.held (Locked queue seen), me.1)

-- an entry is put into a heap that has room
abbrev pub Puts : ℕ → Entry → List Entry → Push → List Entry → Type 0
Puts room entry found push.In left = (length found < room) × AddsEntry entry found left
Puts room entry found (push.Held seen) left = ⊥
Puts room entry found push.Full left = (length found ≡ room) × (left ≡ found)

-- the first entry is taken that the trial takes
abbrev pub Looks : (ℕ → Type 0) → Option ℕ → List Entry → Scan → List Entry → Type 0
Looks refused taken found (scan.Got task) left = (taken ≡ Some task) × TakesFirst refused task found left
Looks refused taken found (scan.Held seen) left = ⊥
Looks refused taken found scan.Empty left = (taken ≡ None) × (found ≡ []) × (left ≡ [])
Looks refused taken found scan.AllBusy left = (taken ≡ None) × (found ≢ []) × (left ≡ found) × AllRefused refused found

-- each entry is tried just once, up to the one that is taken
abbrev pub TriesHeap : (ℕ → Type 0) → List Entry → Scan → ℕ → ℕ → Type 0
TriesHeap refused found (scan.Got task) old new = TriesOnce refused (Some task) found old new
TriesHeap refused found (scan.Held seen) old new = ⊥
TriesHeap refused found scan.Empty old new = new ≡ old
TriesHeap refused found scan.AllBusy old new = TriesOnce refused None found old new
