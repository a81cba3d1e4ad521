-- Blocks that are fetched, and those that are brought back.
use Rattle.std.specs.Prelude.{◌≡◌, ℕ, ◌⊎◌, ◌↔◌, List, Contains, Option, Some, None}
use mathlib.Core.Option as maybe
use mathlib.Core.Option.{some}
use lib.ListN.{get_elem?}
use Rattle.qs_core.specs.Shape.{Shape}
use Rattle.qs_core.specs.Core.{Core, Running}
use Rattle.qs_core.specs.Blocks.{IsApplicable}
use Rattle.qs_table.specs.declared.view.SeatView.{SeatView}
use Rattle.qs_table.specs.Rule.{AreDoneOn, IsShown}

-- at some moment the rule of the table showed a state with the seat as it was; this block was in the slot of the leaf, and its done tasks were just those done there
pub record WasHome {B : Type 0} (shape : Shape) (fits : ℕ → B → Type 0) (done : B → List ℕ) (v : SeatView) (leaf : ℕ) (block : B) : Type 0 where
  pub core : Core
  pub slots : List (maybe.Option (Option B))
  pub known : List SeatView
  pub shown : IsShown shape fits done core slots known
  pub seat : Contains known v
  pub at : get_elem? slots leaf ≡ some (some (Some block))
  pub tasks : AreDoneOn shape core (done block) leaf

-- the task runs
abbrev pub RunsTask : Option Running → ℕ → Type 0
RunsTask None task = ⊥
RunsTask (Some running) task = running.task ≡ task

-- a block was fetched: it fits, is the one last returned, and is ready for the task that runs
pub record IsFetched {B : Type 0} (shape : Shape) (fits : ℕ → B → Type 0) (done : B → List ℕ) (v : SeatView) (leaf : ℕ) (block : B) : Type 0 where
  pub fitting : fits leaf block
  pub last : WasHome shape fits done v leaf block
  pub ready : (running : Running) → v.holds.running ≡ Some running → IsApplicable shape running.task leaf (fits leaf block) (done block)

-- a block may come back: it fits, and its done tasks are those at the fetch and, where a task runs, that one
pub record IsBrought {B : Type 0} (fits : ℕ → B → Type 0) (done : B → List ℕ) (v : SeatView) (leaf : ℕ) (block : B) : Type 0 where
  pub fitting : fits leaf block
  pub before : List ℕ
  pub was : Contains v.fetched (record { leaf = leaf; done = before })
  pub tasks : (task : ℕ) → (Contains (done block) task ↔ (Contains before task ⊎ RunsTask v.holds.running task))
