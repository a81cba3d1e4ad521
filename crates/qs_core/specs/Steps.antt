-- The eight kinds of step: where each is allowed, the word that it changes, and what the seat has after it.
use Rattle.std.specs.Prelude.{◌≡◌, ◌≢◌, ℕ, suc, ◌+◌, ◌-◌, ◌^◌, ◌%◌, ◌<◌, ◌⊎◌, ◌↔◌, ◌==◌, true, false, not, List, [], ◌∷◌, length, filter, slice_get, slice_index, slice_set, Contains, Option, Some, None, if◌then◌else◌, ⊤, unwrap_or}
use Rattle.qs_core.specs.declared.event.Event.{Event}
use Rattle.qs_core.specs.declared.event.Step.{Step}
use Rattle.qs_core.specs.declared.event.Step.TheVariants.{Lock, Raise, Lower, Unlock, Fetch, Return, Claim, Release}
use Rattle.qs_core.specs.Shape.{Shape, AreApart, IsBelow, ancestors, leaves_of, task_at}
use Rattle.qs_core.specs.Core.{Chain, Core, IsComplete, Owns, Running, View, cell_place, claimed_word, leaf_place, task_place, view_at}

-- the chain of a cell that was just locked; where there is no chain, all is 0
abbrev pub new_chain : ℕ → Chain
new_chain cell = record { cell = cell; raises = 0; stopped = false; giving = false }

abbrev pub no_chain : Chain
no_chain = new_chain 0

-- the chain after a raise that saw this word, and after a lower
abbrev pub raised_chain : Chain → ℕ → Chain
raised_chain chain seen = record chain { raises = suc chain.raises; stopped = seen % 2 == 1 }

abbrev pub lowered_chain : Chain → Chain
lowered_chain chain = record chain { raises = chain.raises - 1; giving = true }

-- the newest chain
abbrev pub newest : View → Chain
newest view = unwrap_or (slice_get view.chains 0) no_chain

-- a task runs with no leaf left to return, or none runs
abbrev pub HasReturned : Option Running → Type 0
HasReturned None = ⊤
HasReturned (Some running) = running.leaves ≡ []

-- where a task runs, the leaf is one that it has left to return
abbrev pub MayFetch : Option Running → ℕ → Type 0
MayFetch None leaf = ⊤
MayFetch (Some running) leaf = Contains running.leaves leaf

-- the cell is one of the task's
abbrev pub IsCellOf : Shape → ℕ → ℕ → Type 0
IsCellOf shape task cell = ((task_at shape task).first ≡ cell) ⊎ ((task_at shape task).second ≡ Some cell)

-- the view owns just the cells of the task
abbrev pub OwnsJust : Shape → View → ℕ → Type 0
OwnsJust shape view task = (cell : ℕ) → (Owns shape view cell ↔ IsCellOf shape task cell)

-- the view owns a cell above the leaf
pub record OwnsAbove (shape : Shape) (view : View) (leaf : ℕ) : Type 0 where
  pub cell : ℕ
  pub owned : Owns shape view cell
  pub below : IsBelow shape leaf cell

-- a chain of the cell may stand beside those of the view
pub record AdmitsChain (shape : Shape) (view : View) (cell : ℕ) : Type 0 where
  pub few : length view.chains < 2
  pub complete : (chain : Chain) → Contains view.chains chain → IsComplete shape chain
  pub apart : (owned : ℕ) → Owns shape view owned → AreApart shape owned cell

-- no leaf is out and no task runs
pub record IsFree (view : View) : Type 0 where
  pub none_out : view.out ≡ []
  pub none_runs : view.running ≡ None

pub record CanLock (shape : Shape) (view : View) (cell : ℕ) : Type 0 where
  pub is_cell : cell < length shape.parents
  pub room : AdmitsChain shape view cell
  pub free : IsFree view

pub record CanRaise (shape : Shape) (view : View) : Type 0 where
  pub some : view.chains ≢ []
  pub not_all : (newest view).raises < length (ancestors shape (newest view).cell)
  pub free : (newest view).stopped ≡ false
  pub kept : (newest view).giving ≡ false
  pub none_runs : view.running ≡ None

pub record CanLower (view : View) : Type 0 where
  pub some : view.chains ≢ []
  pub raised : 0 < (newest view).raises
  pub none_out : view.out ≡ []
  pub returned : HasReturned view.running

pub record CanUnlock (view : View) : Type 0 where
  pub some : view.chains ≢ []
  pub none_raised : (newest view).raises ≡ 0
  pub none_out : view.out ≡ []
  pub returned : HasReturned view.running

pub record CanFetch (shape : Shape) (view : View) (leaf : ℕ) : Type 0 where
  pub is_leaf : leaf < shape.leaves
  pub above : OwnsAbove shape view leaf
  pub home : Contains view.out leaf → ⊥
  pub left : MayFetch view.running leaf

pub record CanReturn (shape : Shape) (view : View) (leaf : ℕ) : Type 0 where
  pub is_leaf : leaf < shape.leaves
  pub out : Contains view.out leaf

pub record CanClaim (shape : Shape) (view : View) (task : ℕ) : Type 0 where
  pub is_task : task < length shape.tasks
  pub owns : OwnsJust shape view task
  pub free : IsFree view

pub record CanRelease (view : View) : Type 0 where
  pub running : Running
  pub runs : view.running ≡ Some running
  pub returned : running.leaves ≡ []
  pub left : running.successors ≢ []

-- where a step of a seat with this view is allowed
abbrev pub Allowed : Shape → View → Step → Type 0
Allowed shape view (Lock cell) = CanLock shape view cell
Allowed shape view Raise = CanRaise shape view
Allowed shape view Lower = CanLower view
Allowed shape view Unlock = CanUnlock view
Allowed shape view (Fetch leaf) = CanFetch shape view leaf
Allowed shape view (Return leaf) = CanReturn shape view leaf
Allowed shape view (Claim task) = CanClaim shape view task
Allowed shape view Release = CanRelease view

-- the ancestor of a chain at an index, parent first
abbrev pub ancestor_at : Shape → Chain → ℕ → ℕ
ancestor_at shape chain k = slice_index (ancestors shape chain.cell) k

-- the first successor that is still to release
abbrev pub next_successor : Option Running → ℕ
next_successor None = 0
next_successor (Some running) = slice_index running.successors 0

-- the cell, leaf or task on whose word a step is made
abbrev pub object_of : Shape → View → Step → ℕ
object_of shape view (Lock cell) = cell
object_of shape view Raise = ancestor_at shape (newest view) (newest view).raises
object_of shape view Lower = ancestor_at shape (newest view) ((newest view).raises - 1)
object_of shape view Unlock = (newest view).cell
object_of shape view (Fetch leaf) = leaf
object_of shape view (Return leaf) = leaf
object_of shape view (Claim task) = task
object_of shape view Release = next_successor view.running

-- the place of its word in the list
abbrev pub place_of : Shape → Step → ℕ → ℕ
place_of shape (Fetch leaf) object = leaf_place shape object
place_of shape (Return leaf) object = leaf_place shape object
place_of shape (Claim task) object = task_place shape object
place_of shape Release object = task_place shape object
place_of shape _ object = cell_place shape object

-- what the word becomes where this was seen: words have 64 bits
abbrev pub exchanged : Step → ℕ → ℕ
exchanged (Lock cell) seen = if seen == 0 then 1 else seen
exchanged Raise seen = (seen + 2) % 2 ^ 64
exchanged Lower seen = (seen + (2 ^ 64 - 2)) % 2 ^ 64
exchanged Unlock seen = (seen + (2 ^ 64 - 1)) % 2 ^ 64
exchanged (Fetch leaf) seen = 1
exchanged (Return leaf) seen = 0
exchanged (Claim task) seen = if seen == 0 then claimed_word else seen
exchanged Release seen = (seen + (2 ^ 64 - 1)) % 2 ^ 64

-- a running task is over as soon as no leaf is left to return and no successor left to release
abbrev pub unless_over : ℕ → List ℕ → List ℕ → Option Running
unless_over task [] [] = None
unless_over task leaves successors = Some (record { task = task; leaves = leaves; successors = successors })

abbrev pub without : ℕ → List ℕ → List ℕ
without x xs = filter (λ y. not (y == x)) xs

abbrev pub after_return : Option Running → ℕ → Option Running
after_return None leaf = None
after_return (Some running) leaf = unless_over running.task (without leaf running.leaves) running.successors

abbrev pub rest : {A : Type 0} → List A → List A
rest [] = []
rest (x ∷ xs) = xs

abbrev pub after_release : Option Running → Option Running
after_release None = None
after_release (Some running) = unless_over running.task running.leaves (rest running.successors)

-- the newest chain is changed
abbrev pub with_newest : View → Chain → View
with_newest view chain = record view { chains = chain ∷ rest view.chains }

-- a task that was just claimed: all is left
abbrev pub started : Shape → ℕ → Running
started shape task = record { task = task; leaves = leaves_of shape task; successors = (task_at shape task).successors }

-- what the seat has after its step, where this was seen
abbrev pub view_after : Shape → View → Step → ℕ → View
view_after shape view (Lock cell) seen =
    if seen == 0
    then record view { chains = new_chain cell ∷ view.chains }
    else view
view_after shape view Raise seen = with_newest view (raised_chain (newest view) seen)
view_after shape view Lower seen = with_newest view (lowered_chain (newest view))
view_after shape view Unlock seen = record view { chains = rest view.chains }
view_after shape view (Fetch leaf) seen = record view { out = leaf ∷ view.out }
view_after shape view (Return leaf) seen = record view { out = without leaf view.out; running = after_return view.running leaf }
view_after shape view (Claim task) seen =
    if seen == 0
    then record view { running = Some (started shape task) }
    else view
view_after shape view Release seen = record view { running = after_release view.running }

-- the word that a step of a seat sees
abbrev pub seen_by : Shape → Core → ℕ → Step → ℕ
seen_by shape core seat step = slice_index core.words (place_of shape step (object_of shape (view_at core.views seat) step))

-- the state after the step of a seat
abbrev pub stepped : Shape → Core → ℕ → Step → Core
stepped shape core seat step =
    let view = view_at core.views seat in
    let place = place_of shape step (object_of shape view step) in
    let seen = slice_index core.words place in
    record { words = slice_set core.words place (exchanged step seen); views = slice_set core.views seat (view_after shape view step seen) }

-- an event is allowed where its seat is one and may make the step
pub record IsAllowed (shape : Shape) (core : Core) (event : Event) : Type 0 where
  pub seat : event.seat < length core.views
  pub step : Allowed shape (view_at core.views event.seat) event.step

abbrev pub effect : Shape → Core → Event → Core
effect shape core event = stepped shape core event.seat event.step
