-- A fault that stands at a key names it.
use Rattle.std.proofs.Common.{◌≡◌, ℕ, ◌≤◌, List, inl, inr, arith}
use Rattle.sph_deck.specs.declared.fault.DeckFault.{DeckFault}
use Rattle.sph_deck.specs.declared.fault.DeckFault.TheVariants.{Missing, WrongKind, OutOfRange}
use Rattle.sph_deck.specs.declared.fault.Place.{Place}
use Rattle.sph_deck.specs.declared.key.Key.{Key}
use Rattle.sph_deck.specs.declared.key.Key.TheVariants.{Ticks, Particle}
use Rattle.sph_deck.specs.Faults.{Stands}
use Rattle.sph_deck.specs.Keys.{number_of}
use Rattle.sph_report.specs.DeckLines.{IsKeyNumber, NamesKey}

-- a key's number is from 1 to 19
number_of-range : (key : Key) → (1 ≤ number_of key) × (number_of key ≤ 19)
number_of-range Ticks = (omega arith, omega arith)
number_of-range _ = (omega arith, omega arith)

-- the place of a key has its number
IsKeyNumber-of : (place : Place) (key : Key) → place.key ≡ number_of key → IsKeyNumber place
IsKeyNumber-of place key is = let range = number_of-range key in record { low = omega arith; high = omega arith }

-- a fault that stands at a key names it
pub NamesKey-stands : (bytes : List ℕ) (fault : DeckFault) → Stands bytes fault → NamesKey fault
NamesKey-stands bytes (Missing place) stands = let at = stands.2 in IsKeyNumber-of place at.key at.at.number
NamesKey-stands bytes (WrongKind place) stands = elim stands.2 [
  | inl wrong ↦ IsKeyNumber-of place wrong.key wrong.at.number
  | inr no_table ↦ IsKeyNumber-of place Particle no_table.number
]
NamesKey-stands bytes (OutOfRange place value) stands = let at = stands.2 in IsKeyNumber-of place at.key at.at.number
NamesKey-stands bytes _ stands = tt
