-- The pushes of a turn: the tasks of the ready list are offered to the queues, the last task first.
use Rattle.std.specs.Prelude.{◌≡◌, ◌⊎◌, ℕ, ◌+◌, ◌%◌, Bool, true, false, List, [], ◌∷◌, ◌++◌, All, Some, flat_map, length, reverse, slice_get}
use Rattle.qs_heap.specs.declared.entry.Entry.{Entry}
use Rattle.qs_queues.specs.declared.answers.Push.{Push}
use Rattle.qs_queues.specs.declared.answers.Push.TheVariants.{In, Held, Full}
use Rattle.qs_queues.specs.declared.view.QueueNote.{QueueNote}
use Rattle.qs_queues.specs.Calls.{SaysPush}

-- the queues in cyclic order from a worker's own
abbrev pub queue_at : ℕ → ℕ → ℕ → ℕ
queue_at own queues k = (own + k) % queues

-- a push that was made
pub record Pushed : Type 0 where
  pub queue : ℕ
  pub entry : Entry
  pub answer : Push
  pub notes : List QueueNote

abbrev pub is_in : Push → Bool
is_in In = true
is_in (Held seen) = false
is_in Full = false

-- the answer was Held or Full
abbrev pub IsTurnedAway : Pushed → Type 0
IsTurnedAway p = is_in p.answer ≡ false

-- the notes of pushes, in order
abbrev pub notes_of_pushes : List Pushed → List QueueNote
notes_of_pushes pushes = flat_map (λ (p : Pushed). p.notes) pushes

module _ (room queues own : ℕ) where
  -- an entry was pushed to the queues in cyclic order from the worker's own, and the notes show the answers
  pub record IsOffered (entry : Entry) (pushes : List Pushed) : Type 0 where
    pub each : All (λ (p : Pushed). (p.entry ≡ entry) × SaysPush room p.queue p.entry p.answer p.notes) pushes
    pub in_order : (k : ℕ) (p : Pushed) → slice_get pushes k ≡ Some p → p.queue ≡ queue_at own queues k

  -- until one took it
  pub record IsTakenByOne (entry : Entry) (pushes : List Pushed) : Type 0 where
    pub offered : IsOffered entry pushes
    pub before : List Pushed
    pub last : Pushed
    pub is : pushes ≡ before ++ last ∷ []
    pub refusals : All IsTurnedAway before
    pub took : last.answer ≡ In

  -- and none took it
  pub record IsTakenByNone (entry : Entry) (pushes : List Pushed) : Type 0 where
    pub offered : IsOffered entry pushes
    pub every : length pushes ≡ queues
    pub refusals : All IsTurnedAway pushes

  module _ (entry_of : ℕ → Entry) where
    -- the tasks that left the ready list, in this order: each was taken by a queue
    abbrev pub AreTaken : List ℕ → List Pushed → Type 0
    AreTaken [] pushes = pushes ≡ []
    AreTaken (task ∷ tasks) pushes = (first : List Pushed) × (others : List Pushed) × (pushes ≡ first ++ others) × IsTakenByOne (entry_of task) first × AreTaken tasks others

    -- the last task of the list was refused by every queue
    pub record IsLastRefused (kept : List ℕ) (refused : List Pushed) : Type 0 where
      pub front : List ℕ
      pub last : ℕ
      pub is : kept ≡ front ++ last ∷ []
      pub by_all : IsTakenByNone (entry_of last) refused

    -- the ready list is empty, or its last task was refused by every queue
    abbrev pub IsStuck : List ℕ → List Pushed → Type 0
    IsStuck kept refused = ((kept ≡ []) × (refused ≡ [])) ⊎ IsLastRefused kept refused

    -- the pushes of a turn: those of the tasks that left, the last of the list first, and those of the last task that is left, which no queue took
    pub record ArePushed (before kept : List ℕ) (notes : List QueueNote) : Type 0 where
      pub gone : List ℕ
      pub left_from_the_last : before ≡ kept ++ reverse gone
      pub taken : List Pushed
      pub refused : List Pushed
      pub notes_are : notes ≡ notes_of_pushes taken ++ notes_of_pushes refused
      pub each_taken : AreTaken gone taken
      pub at_scan : IsStuck kept refused
