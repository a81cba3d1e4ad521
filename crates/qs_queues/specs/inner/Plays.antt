-- What each step tells its seat, and how seats are split off.
use Rattle.std.specs.Prelude.{◌≡◌, ◌≢◌, ℕ, ◌+◌, ◌<◌, [], ◌∷◌, Option, Some, None}
use Rattle.atomic_table.specs.Table.{Me}
use Rattle.atomic_table.specs.Table as table
use Rattle.qs_heap.specs.Heap.{Heap}
use Rattle.qs_queues.specs.declared.view.Held.{Held}
use Rattle.qs_queues.specs.declared.view.QueueNote.TheVariants.{Locked, Unlocked, Loaded}
use Rattle.qs_queues.specs.declared.view.QueueView.{QueueView}
use Rattle.qs_queues.specs.Rule.{IsRightHeap}
use Rattle.qs_queues.specs.Views.{fresh_view, with_less, with_note}

-- what a seat knows, and the heaps that it carries
abbrev pub Mine : Type 0
Mine = Me (Option Heap) QueueView

-- beside a seat one that has done nothing
abbrev pub fresh_beside : QueueView → QueueView
fresh_beside v = fresh_view v.room v.tasks

-- an empty heap with this room
abbrev pub empty_heap : ℕ → Heap
empty_heap room = record { entries = []; room = room }

-- a seat that saw 0 holds the queue, and carries its heap
pub record GotQueue (queue : ℕ) (me me' : Mine) : Type 0 where
  pub hold : Held
  pub heap : Heap
  pub after : me' ≡ (with_note me.0 (Some hold) (Locked queue 0), (queue, Some heap) ∷ me.1)
  pub of_queue : hold.queue ≡ queue
  pub found : hold.found ≡ heap.entries
  pub right : IsRightHeap me.0.room me.0.tasks heap

-- what a lock leaves: where it saw another word, the note alone
pub record HasLocked (queue : ℕ) (me : Mine) (seen : ℕ) (me' : Mine) : Type 0 where
  pub bit : seen < 2
  pub busy : seen ≢ 0 → me' ≡ (with_note me.0 me.0.held (Locked queue seen), me.1)
  pub got : seen ≡ 0 → GotQueue queue me me'

abbrev pub locked : table.Step (Option Heap) → Mine → ℕ → Mine → Type 0
locked st me seen me' = (queue : ℕ) → st.word ≡ queue + 1 → HasLocked queue me seen me'

-- an unlock: a note with the hold's number, the entries found, and those of the heap that is brought home
abbrev pub HasUnlocked : ℕ → Mine → Mine → Type 0
HasUnlocked queue me me' =
    (hold : Held) (heap : Heap) → me.0.held ≡ Some hold → me.1 ≡ (queue, Some heap) ∷ [] → me' ≡ (with_note me.0 None (Unlocked queue (hold.before + 1) hold.found heap.entries), [])

abbrev pub unlocked : table.Step (Option Heap) → Mine → ℕ → Mine → Type 0
unlocked st me seen me' = (queue : ℕ) → st.word ≡ queue + 1 → HasUnlocked queue me me'

-- a subtraction
abbrev pub HasSubtracted : Mine → Mine → Type 0
HasSubtracted me me' = me' ≡ (with_less me.0, me.1)

abbrev pub subtracted : table.Step (Option Heap) → Mine → ℕ → Mine → Type 0
subtracted st me seen me' = HasSubtracted me me'

-- and a load
abbrev pub HasLoaded : Mine → ℕ → Mine → Type 0
HasLoaded me seen me' = me' ≡ (with_note me.0 me.0.held (Loaded seen), me.1)

abbrev pub loaded : table.Step (Option Heap) → Mine → ℕ → Mine → Type 0
loaded st me seen me' = HasLoaded me seen me'
