-- Which entries move where one entry goes up or down.
use Rattle.std.specs.Prelude.{◌≡◌, ℕ, zero, suc, ◌-◌, ◌/◌, List}
use Rattle.qs_heap.specs.declared.entry.Entry.{Entry}
use Rattle.qs_heap.specs.Entries.{entry_at}

-- the place that one stands right below, and the place so many of such steps up
abbrev pub place_above : ℕ → ℕ
place_above place = (place - 1) / 2

abbrev pub place_up : ℕ → ℕ → ℕ
place_up zero place = place
place_up (suc steps) place = place_up steps (place_above place)

-- a place is the other one, or stands above it
pub record IsInLine (place low : ℕ) : Type 0 where
  pub steps : ℕ
  pub is : place_up steps low ≡ place

-- the entries move in one line of places through this one; every other entry stays
pub record MovesInLine (old new : List Entry) (place : ℕ) : Type 0 where
  pub lowest : ℕ
  pub through : IsInLine place lowest
  pub others : (other : ℕ) → (IsInLine other lowest → ⊥) → entry_at new other ≡ entry_at old other
