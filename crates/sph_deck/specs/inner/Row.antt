-- What one row's table has: its names, its numbers, and its faults.
use Rattle.std.specs.Prelude.{◌≡◌, ◌≢◌, ℕ, Bool, ℤ, List, Option, None, IsSome, Err, find}
use Rattle.std.specs.Str.{bytes_eq}
use Rattle.toml.specs.Data.{Members, get_member}
use Rattle.sph_deck.specs.declared.fault.DeckFault.{DeckFault}
use Rattle.sph_deck.specs.declared.fault.DeckFault.TheVariants.{Unknown}
use Rattle.sph_deck.specs.declared.key.Key.{Key}
use Rattle.sph_deck.specs.Document.{value_at}
use Rattle.sph_deck.specs.inner.Judged.{judged, IsReadAt}
use Rattle.sph_deck.specs.Keys.{keys, name_of, range_of, is_of_top}
use Rattle.sph_deck.specs.inner.Meets.{Meets}

-- the key of a name
unfoldable pub key_of : List ℕ → Option Key
key_of name = find (λ key. bytes_eq (name_of key) name) keys

-- the name is that of a key of the top, or of a particle
pub record IsKnownName (of_top : Bool) (name : List ℕ) : Type 0 where
  pub key : Key
  pub own : is_of_top key ≡ of_top
  pub named : name_of key ≡ name

-- it is the name of no such key
abbrev pub IsUnknownName : Bool → List ℕ → Type 0
IsUnknownName of_top name = (key : Key) → is_of_top key ≡ of_top → name_of key ≢ name

-- each name of the table is known
abbrev pub AreNamesKnown : Bool → Members → Type 0
AreNamesKnown of_top table = (name : List ℕ) → IsSome (get_member name table) → IsKnownName of_top name

-- some name of the table is not
pub record HasUnknownName (of_top : Bool) (table : Members) : Type 0 where
  pub name : List ℕ
  pub stands : IsSome (get_member name table)
  pub unknown : IsUnknownName of_top name

-- the fault of a row with such a name
abbrev pub IsNameFault : Bool → ℕ → Members → DeckFault → Type 0
IsNameFault of_top row table fault = HasUnknownName of_top table × (fault ≡ Unknown (record { key = 0; row = row }))

-- the fault at a key that wants an integer
abbrev pub IsKeyFault : Key → ℕ → Members → DeckFault → Type 0
IsKeyFault key row table fault = judged key row (value_at key table) ≡ Err fault

-- the walk takes a key of the row: it meets the fault there, and where it keeps none, this is the integer there
pub record ReadsKey (key : Key) (row : ℕ) (table : Members) (z : ℤ) (before after : Option DeckFault) : Type 0 where
  pub faults : Meets (IsKeyFault key row table) before after
  pub read : after ≡ None → IsReadAt key table z

-- each own key that wants an integer has one, in its range
abbrev pub AreNumbersRead : Bool → Members → Type 0
AreNumbersRead of_top table = (key : Key) → is_of_top key ≡ of_top → IsSome (range_of key) → (z : ℤ) × IsReadAt key table z

-- the fault of a name of the row, or of a key that wants an integer
pub data IsRowFault (of_top : Bool) (row : ℕ) (table : Members) : DeckFault → Type 0 where
  unknown_name : HasUnknownName of_top table → IsRowFault of_top row table (Unknown (record { key = 0; row = row }))
  at_key : (key : Key) (fault : DeckFault) → is_of_top key ≡ of_top → IsSome (range_of key) → IsKeyFault key row table fault → IsRowFault of_top row table fault
