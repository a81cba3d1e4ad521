-- Blocks that a seat fetches for a task, and puts back after it was done on them.
use Rattle.std.specs.Prelude.{◌≡◌, ℕ, ◌+◌, ◌<◌, ◌≤◌, ◌⊎◌, ◌↔◌, List, [], ◌++◌, length, get_or, Contains, Some}
use Rattle.std.specs.List.{range_with_len}
use Rattle.qs_core.specs.declared.event.Note.{Note}
use Rattle.qs_core.specs.Shape.{Shape}
use Rattle.qs_core.specs.Core.{Running}
use Rattle.qs_core.specs.Steps.{unless_over}
use Rattle.qs_core.specs.Blocks.{IsApplicable}
use Rattle.qs_table.specs.declared.view.Fetched.{Fetched}
use Rattle.qs_table.specs.declared.view.SeatView.{SeatView}
use Rattle.qs_table.specs.Claims.{freed_in}
use Rattle.qs_worker.specs.Claims.{claimed_in}

-- the notes before are a prefix of those after, and the further ones free no task and claim these
pub record GrewClaiming (tasks : List ℕ) (before after : List Note) : Type 0 where
  pub further : List Note
  pub is : after ≡ before ++ further
  pub frees_none : freed_in further ≡ []
  pub claims : claimed_in further ≡ tasks

-- and claim none
abbrev pub GrewQuietly : List Note → List Note → Type 0
GrewQuietly before after = GrewClaiming [] before after

-- the seat keeps its place and its cells, and none of its further notes frees or claims a task
pub record KeptCells (before after : SeatView) : Type 0 where
  pub place : after.place ≡ before.place
  pub chains : after.holds.chains ≡ before.holds.chains
  pub notes : GrewQuietly before.notes after.notes

module _ {B : Type 0} (shape : Shape) (fits : ℕ → B → Type 0) (done : B → List ℕ) where
  -- a block is out: what was done on it is noted, and it is ready for the task that runs
  pub record IsOutReady (v : SeatView) (leaf : ℕ) (block : B) : Type 0 where
    pub out : Contains v.holds.out leaf
    pub noted : Contains v.fetched (record { leaf = leaf; done = done block })
    pub ready : (running : Running) → v.holds.running ≡ Some running → IsApplicable shape running.task leaf (fits leaf block) (done block)

  -- the blocks of the leaves from one on were fetched, and all else that was out still is
  pub record AreFetched (from : ℕ) (before after : SeatView) (blocks : List B) : Type 0 where
    pub cells : KeptCells before after
    pub running : after.holds.running ≡ before.holds.running
    pub each : (k : ℕ) (d : B) → k < length blocks → IsOutReady after (from + k) (get_or blocks k d)
    pub others : (leaf : ℕ) → Contains after.holds.out leaf → Contains before.holds.out leaf ⊎ ((from ≤ leaf) × (leaf < from + length blocks))
    pub still : (leaf : ℕ) → Contains before.holds.out leaf → Contains after.holds.out leaf
    pub noted : (f : Fetched) → Contains before.fetched f → Contains after.fetched f

module _ {B : Type 0} (fits : ℕ → B → Type 0) (done : B → List ℕ) (task : ℕ) where
  -- a block is out, and the task was done on it beside what was done at its fetch
  pub record IsWorkedOn (v : SeatView) (leaf : ℕ) (block : B) : Type 0 where
    pub out : Contains v.holds.out leaf
    pub fitting : fits leaf block
    pub before : List ℕ
    pub noted : Contains v.fetched (record { leaf = leaf; done = before })
    pub tasks : (t : ℕ) → (Contains (done block) t ↔ (Contains before t ⊎ (t ≡ task)))

  -- the task runs, with the leaves of these blocks left behind others
  pub record CanPut (others successors : List ℕ) (from : ℕ) (v : SeatView) (blocks : List B) : Type 0 where
    pub running : v.holds.running ≡ unless_over task (others ++ range_with_len from (length blocks)) successors
    pub apart : (leaf : ℕ) → Contains others leaf → from ≤ leaf → leaf < from + length blocks → ⊥
    pub each : (k : ℕ) (d : B) → k < length blocks → IsWorkedOn v (from + k) (get_or blocks k d)

-- the leaves from one up to another, which is excluded, are home, and all else that was out still is
pub record HasPut (from to : ℕ) (before after : SeatView) : Type 0 where
  pub cells : KeptCells before after
  pub home : (leaf : ℕ) → Contains after.holds.out leaf → Contains before.holds.out leaf × (from ≤ leaf → leaf < to → ⊥)
  pub still : (leaf : ℕ) → (from ≤ leaf → leaf < to → ⊥) → Contains before.holds.out leaf → Contains after.holds.out leaf
  pub noted : (f : Fetched) → (from ≤ f.leaf → f.leaf < to → ⊥) → Contains before.fetched f → Contains after.fetched f
