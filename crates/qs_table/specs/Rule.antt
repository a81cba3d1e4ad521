-- The rule of a table, which holds between any two steps of any seats: its words, the blocks at home and what the seats know show a sound state of the machine.
use Rattle.std.specs.Prelude.{◌≡◌, ◌≢◌, ◌↔◌, ◌==◌, ℕ, ◌<◌, ◌≤◌, List, length, map, count_by, Contains, Option, Some, None}
use mathlib.Core.Option as maybe
use mathlib.Core.Option.{some}
use lib.ListN.{get_elem?}
use Rattle.atomic_table.specs.Table.{State}
use Rattle.qs_core.specs.Shape.{Shape, IsShape}
use Rattle.qs_core.specs.Core.{Core}
use Rattle.qs_core.specs.Sound.{IsClaimed, IsDone, IsSound, IsView, outs_of, unreleased}
use Rattle.qs_table.specs.declared.view.Bundle.{Bundle}
use Rattle.qs_table.specs.declared.view.Fetched.{Fetched}
use Rattle.qs_table.specs.declared.view.SeatView.{SeatView}
use Rattle.qs_table.specs.Notes.{claims_of, frees_of}
use Rattle.qs_table.specs.Views.{seats_in}

-- the seats are those of the machine: one for each, which holds what the machine's view of it has
pub record AreSeats (core : Core) (known : List SeatView) : Type 0 where
  pub each : (v : SeatView) → Contains known v → IsView core v.place v.holds
  pub once : (place : ℕ) → place < length core.views → count_by (λ (v : SeatView). v.place == place) known ≡ 1
  pub all : length known ≡ length core.views

-- just these tasks are done on the leaf
abbrev pub AreDoneOn : Shape → Core → List ℕ → ℕ → Type 0
AreDoneOn shape core tasks leaf = (task : ℕ) → (Contains tasks task ↔ IsDone shape core task leaf)

-- what a seat has noted of the leaves that it fetched: they are just those that it has out, in order, and of each the tasks are those done there; but for the one at hand their slots are in the table, and empty
pub record AreOut {B : Type 0} (shape : Shape) (core : Core) (slots : List (maybe.Option (Option B))) (v : SeatView) : Type 0 where
  pub leaves : map (λ (f : Fetched). f.leaf) v.fetched ≡ v.holds.out
  pub tasks : (f : Fetched) → Contains v.fetched f → AreDoneOn shape core f.done f.leaf
  pub empty : (f : Fetched) → Contains v.fetched f → v.hand ≢ Some f.leaf → get_elem? slots f.leaf ≡ some (some None)

-- for each task at most one note claims it, and one does just where it is claimed
pub record AreClaims (shape : Shape) (core : Core) (known : List SeatView) : Type 0 where
  pub one : (task : ℕ) → claims_of task known ≤ 1
  pub claimed : (task : ℕ) → task < length shape.tasks → (0 < claims_of task known ↔ IsClaimed shape core task)

-- for each task at most one note frees it, and where one does every edge into it is released
pub record AreFreedOnce (shape : Shape) (core : Core) (known : List SeatView) : Type 0 where
  pub one : (task : ℕ) → frees_of task known ≤ 1
  pub released : (task : ℕ) → task < length shape.tasks → 0 < frees_of task known → unreleased shape core task ≡ 0

module _ {B : Type 0} (shape : Shape) (fits : ℕ → B → Type 0) (done : B → List ℕ) where
  -- the leaf's block is at home: it fits, and has as done tasks just those done on the leaf
  pub record IsHome (core : Core) (slots : List (maybe.Option (Option B))) (leaf : ℕ) : Type 0 where
    pub block : B
    pub at : get_elem? slots leaf ≡ some (some (Some block))
    pub fitting : fits leaf block
    pub tasks : AreDoneOn shape core (done block) leaf

  -- there is a slot for each leaf, and each leaf that no seat has out has its block at home
  pub record AreHomes (core : Core) (slots : List (maybe.Option (Option B))) : Type 0 where
    pub one_each : length slots ≡ shape.leaves
    pub each : (leaf : ℕ) → leaf < shape.leaves → outs_of leaf core.views ≡ 0 → IsHome core slots leaf

  -- the state of the machine is shown
  pub record IsShown (core : Core) (slots : List (maybe.Option (Option B))) (known : List SeatView) : Type 0 where
    pub sound : IsSound shape core
    pub seats : AreSeats core known
    pub homes : AreHomes core slots
    pub outs : (v : SeatView) → Contains known v → AreOut shape core slots v
    pub claims : AreClaims shape core known
    pub releases : AreFreedOnce shape core known

  -- the rule of a table of so many seats
  pub record Shows {P : Type 0} (count : ℕ) (s : State (Option B) (Bundle P)) : Type 0 where
    pub laws : IsShape shape
    pub core : Core
    pub words : core.words ≡ s.words
    pub seats : length core.views ≡ count
    pub shown : IsShown core s.homes (seats_in s.views)
