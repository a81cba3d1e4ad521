-- The first of some faults, and a walk that keeps the first of those that it meets.
use Rattle.std.specs.Prelude.{◌≡◌, ◌⊎◌, Option, Some, None}
use Rattle.sph_deck.specs.declared.fault.DeckFault.{DeckFault}
use Rattle.sph_deck.specs.FirstFault.{IsNoLater}

-- the fault is one of these, and none of these comes before it
pub record IsFirst (P : DeckFault → Type 0) (fault : DeckFault) : Type 0 where
  pub is_one : P fault
  pub first : (other : DeckFault) → P other → IsNoLater fault other

-- the result is one of two faults, and comes no later than either
pub record IsEarlier (a b result : DeckFault) : Type 0 where
  pub is_one : (result ≡ a) ⊎ (result ≡ b)
  pub first : IsNoLater result a × IsNoLater result b

-- a fault is kept that comes no later than this one
abbrev pub IsCovered : Option DeckFault → DeckFault → Type 0
IsCovered None fault = ⊥
IsCovered (Some kept) fault = IsNoLater kept fault

-- A walk over all faults of which P holds: it had kept the one fault, or none, and now keeps the other. What it keeps now
-- comes no later than what it had kept and than each fault of which P holds, and is one of these.
pub record Meets (P : DeckFault → Type 0) (before after : Option DeckFault) : Type 0 where
  pub kept : (fault : DeckFault) → before ≡ Some fault → IsCovered after fault
  pub met : (fault : DeckFault) → P fault → IsCovered after fault
  pub from : (fault : DeckFault) → after ≡ Some fault → (before ≡ Some fault) ⊎ P fault
