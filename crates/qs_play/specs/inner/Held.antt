-- What a seat holds: its chains, as a list, whether one of them owns a cell, and whether its cells are just those of a task.
use Rattle.std.specs.Prelude.{◌≡◌, ◌⊎◌, ℕ, List, [], ◌∷◌, Option, Some, None, ⊤}
use Rattle.qs_play.specs.declared.seat.chains.Chains.{Chains}
use Rattle.qs_play.specs.declared.seat.chains.Chains.TheVariants.{Empty, One, Two}
use Rattle.qs_core.specs.Shape.{Shape}
use Rattle.qs_core.specs.Core.{Chain, IsComplete}

-- the newest first
abbrev pub chains_of : Chains → List Chain
chains_of Empty = []
chains_of (One newest) = newest ∷ []
chains_of (Two newest older) = newest ∷ older ∷ []

-- the chain is complete, and of the cell
abbrev pub IsOwner : Shape → Chain → ℕ → Type 0
IsOwner shape chain cell = IsComplete shape chain × (chain.cell ≡ cell)

-- the cell, if there is one, is the one or the other
abbrev pub IsEither : Option ℕ → Option ℕ → Option ℕ → Type 0
IsEither None a b = ⊤
IsEither (Some cell) a b = (a ≡ Some cell) ⊎ (b ≡ Some cell)

-- cells, where there are any, are just those of a task
pub record AreJust (newest older : Option ℕ) (first : ℕ) (second : Option ℕ) : Type 0 where
  pub has_first : IsEither (Some first) newest older
  pub has_second : IsEither second newest older
  pub newest_in : IsEither newest (Some first) second
  pub older_in : IsEither older (Some first) second
