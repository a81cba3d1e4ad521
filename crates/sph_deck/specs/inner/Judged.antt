-- What a value at a key is judged to be: an integer in the key's range, or the fault that it is.
use Rattle.std.specs.Prelude.{◌≡◌, ℕ, ◌&&◌, Bool, false, ℤ, pos, ◌≤ℤ◌, int_le, Option, Some, None, Result, Ok, Err, if◌then◌else◌}
use Rattle.std.specs.Option.{option_map_or}
use Rattle.toml.specs.Data.{Data, integer, Members, as_integer}
use Rattle.sph_deck.specs.declared.fault.DeckFault.{DeckFault}
use Rattle.sph_deck.specs.declared.fault.DeckFault.TheVariants.{Missing, WrongKind, OutOfRange}
use Rattle.sph_deck.specs.declared.fault.Place.{Place}
use Rattle.sph_deck.specs.declared.key.Key.{Key}
use Rattle.sph_deck.specs.Document.{value_at}
use Rattle.sph_deck.specs.Keys.{number_of, range_of}

-- the place of a key in a row
abbrev pub place_at : Key → ℕ → Place
place_at key row = record { key = number_of key; row = row }

-- the integer is in the range
abbrev pub is_within : ℤ × ℤ → ℤ → Bool
is_within range z = int_le range.0 z && int_le z range.1

-- an integer at a key of this range, if it takes one
abbrev pub judged_integer : Key → ℕ → Option (ℤ × ℤ) → ℤ → Result ℤ DeckFault
judged_integer key row None z = Err (WrongKind (place_at key row))
judged_integer key row (Some range) z = if is_within range z then Ok z else Err (OutOfRange (place_at key row) z)

-- a value that may be an integer
abbrev pub judged_number : Key → ℕ → Option ℤ → Result ℤ DeckFault
judged_number key row None = Err (WrongKind (place_at key row))
judged_number key row (Some z) = judged_integer key row (range_of key) z

-- what stands at a key that wants an integer
unfoldable pub judged : Key → ℕ → Option Data → Result ℤ DeckFault
judged key row None = Err (Missing (place_at key row))
judged key row (Some value) = judged_number key row (as_integer value)

-- the integer is in the range of its key
abbrev pub IsWithin : Option (ℤ × ℤ) → ℤ → Type 0
IsWithin None z = ⊥
IsWithin (Some range) z = (range.0 ≤ℤ z) × (z ≤ℤ range.1)

-- the table has this integer at the key, in its range
pub record IsReadAt (key : Key) (table : Members) (z : ℤ) : Type 0 where
  pub found : value_at key table ≡ Some (integer z)
  pub range : IsWithin (range_of key) z

-- the key takes no integer below 0, and none from 2^32 on
abbrev pub is_whole : Key → Bool
is_whole key = option_map_or (λ range. is_within (pos 0, pos 4294967295) range.0 && is_within (pos 0, pos 4294967295) range.1) (range_of key) false
