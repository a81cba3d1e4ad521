-- The rule of the queues, which holds between any two steps of any seats: the holds of each queue make one history, in which each hold finds what the one before left behind.
use Rattle.std.specs.Prelude.{◌≡◌, ℕ, ◌+◌, ◌-◌, ◌%◌, ◌^◌, ◌<◌, ◌≤◌, ◌==◌, ◌&&◌, Bool, false, List, [], ◌∷◌, length, slice_get, slice_index, sum_by, count_by, Contains, Option, Some, None, if◌then◌else◌, ⊤}
use mathlib.Core.Option as maybe
use mathlib.Core.Option.{some}
use lib.ListN.{get_elem?}
use Rattle.atomic_table.specs.Table.{State}
use Rattle.qs_heap.specs.declared.entry.Entry.{Entry}
use Rattle.qs_heap.specs.Heap.{Heap, IsHeap}
use Rattle.qs_heap.specs.Scans.{AreBelow}
use Rattle.qs_queues.specs.declared.view.Held.{Held}
use Rattle.qs_queues.specs.declared.view.QueueNote.{QueueNote}
use Rattle.qs_queues.specs.declared.view.QueueNote.TheVariants.{Locked, Unlocked, Loaded}
use Rattle.qs_queues.specs.declared.view.QueueView.{QueueView}

-- a heap has the heap's order and its room, and each entry's task is below the number of tasks
pub record IsRightHeap (room tasks : ℕ) (heap : Heap) : Type 0 where
  pub ordered : IsHeap heap.entries
  pub room_is : heap.room ≡ room
  pub below : AreBelow tasks heap.entries

-- a hold of a queue: the entries found, and those left behind
pub record Hold : Type 0 where
  pub found : List Entry
  pub left : List Entry

-- what the last of some holds left behind, and the entries at the start where there is none
abbrev pub last_left : List Entry → List Hold → List Entry
last_left start [] = start
last_left start (hold ∷ holds) = last_left hold.left holds

-- each hold found what the one before left behind, and the first the entries at the start
abbrev pub IsChain : List Entry → List Hold → Type 0
IsChain start [] = ⊤
IsChain start (hold ∷ holds) = (hold.found ≡ start) × IsChain hold.left holds

-- an unlock of the queue with this number, and how many such notes there are in the views
abbrev pub is_unlock : ℕ → ℕ → QueueNote → Bool
is_unlock queue number (Locked q seen) = false
is_unlock queue number (Unlocked q n found left) = (q == queue) && (n == number)
is_unlock queue number (Loaded left) = false

abbrev pub unlocks_of : ℕ → ℕ → List QueueView → ℕ
unlocks_of queue number views = sum_by (λ (v : QueueView). count_by (is_unlock queue number) v.notes) views

-- how many seats hold the queue
abbrev pub holds_one : ℕ → Option Held → ℕ
holds_one queue None = 0
holds_one queue (Some held) = if held.queue == queue then 1 else 0

abbrev pub holders_of : ℕ → List QueueView → ℕ
holders_of queue views = sum_by (λ (v : QueueView). holds_one queue v.held) views

-- a note of an unlock tells the hold of that number in the queue's history, counted from 1
abbrev pub Fits : (ℕ → List Hold) → QueueNote → Type 0
Fits history (Locked queue seen) = ⊤
Fits history (Unlocked queue number found left) = (0 < number) × (slice_get (history queue) (number - 1) ≡ Some (record { found = found; left = left }))
Fits history (Loaded left) = ⊤

-- who holds a queue knows how often it was held before, and found what the last hold left behind
pub record IsHeld (queues : ℕ) (history : ℕ → List Hold) (held : Held) : Type 0 where
  pub is_queue : held.queue < queues
  pub before : held.before ≡ length (history held.queue)
  pub found : held.found ≡ last_left [] (history held.queue)

-- a free queue has its heap at home, with what its last hold left behind
pub record IsQueueFree (room tasks : ℕ) (history : ℕ → List Hold) (homes : List (maybe.Option (Option Heap))) (queue : ℕ) : Type 0 where
  pub heap : Heap
  pub at : get_elem? homes queue ≡ some (some (Some heap))
  pub entries : heap.entries ≡ last_left [] (history queue)
  pub right : IsRightHeap room tasks heap

-- word 0 is the number of tasks left, and behind it stands the word of each queue
pub record ShowsQueues (queues room tasks : ℕ) (s : State (Option Heap) QueueView) : Type 0 where
  pub history : ℕ → List Hold
  pub wide : length s.words ≡ queues + 1
  pub deep : length s.homes ≡ queues
  -- the first hold of a queue found no entry, and each later one what the one before left behind
  pub chained : (queue : ℕ) → IsChain [] (history queue)
  -- each hold that has ended stands in just one note, and each note of an unlock is of such a hold
  pub noted : (seat : ℕ) (v : QueueView) (note : QueueNote) → get_elem? s.views seat ≡ some v → Contains v.notes note → Fits history note
  pub once : (queue number : ℕ) → 0 < number → number ≤ length (history queue) → unlocks_of queue number s.views ≡ 1
  -- a queue's word is 1 while a seat holds it, which is one at most, and else 0
  pub words : (queue : ℕ) → queue < queues → slice_index s.words (queue + 1) ≡ holders_of queue s.views
  pub one : (queue : ℕ) → holders_of queue s.views ≤ 1
  pub held : (seat : ℕ) (v : QueueView) (h : Held) → get_elem? s.views seat ≡ some v → v.held ≡ Some h → IsHeld queues history h
  pub free : (queue : ℕ) → queue < queues → holders_of queue s.views ≡ 0 → IsQueueFree room tasks history s.homes queue
  pub limits : (seat : ℕ) (v : QueueView) → get_elem? s.views seat ≡ some v → (v.room ≡ room) × (v.tasks ≡ tasks)
  -- the tasks left are those at the start less one for each subtraction, by 64 bits
  pub left : (slice_index s.words 0 + sum_by (λ (v : QueueView). v.subtractions) s.views) % 2 ^ 64 ≡ tasks % 2 ^ 64
