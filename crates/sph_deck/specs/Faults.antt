-- Where each fault of a deck stands in its bytes, and which decks are accepted.
use Rattle.std.specs.Prelude.{◌≡◌, ◌≢◌, ℕ, suc, ◌<◌, ◌≤◌, ◌⊎◌, ℤ, ◌≤ℤ◌, List, length, Option, Some, None, IsSome, slice_get}
use Rattle.sph_num.specs.Ranges.{most_particles}
use Rattle.toml.specs.Data.{Data, array, integer, Items, Members, get_member, as_integer, as_array, as_table}
use Rattle.sph_deck.specs.declared.deck.Deck.{Deck}
use Rattle.sph_deck.specs.declared.fault.DeckFault.{DeckFault}
use Rattle.sph_deck.specs.declared.fault.DeckFault.TheVariants.{TooLong, NotToml, Unknown, Missing, WrongKind, OutOfRange, NoParticles, TooMany, BadEvery, BadTicks, BadBins, Sums}
use Rattle.sph_deck.specs.declared.fault.Place.{Place}
use Rattle.sph_deck.specs.declared.key.Key.{Key}
use Rattle.sph_deck.specs.declared.key.Key.TheVariants.{Particle}
use Rattle.sph_deck.specs.Keys.{name_of, number_of, range_of, IsOwn}
use Rattle.sph_deck.specs.Agreement.{Disagree}
use Rattle.sph_deck.specs.Document.{IsDocument, elements, value_at, table_at, params_of, particles_of}

-- the greatest length of a deck's text
abbrev pub longest_text : ℕ
longest_text = 16777216

-- the place names this key of the row's own, and the row has this table
pub record IsKeyOf (top : Members) (place : Place) (key : Key) (table : Members) : Type 0 where
  pub number : place.key ≡ number_of key
  pub own : IsOwn key place.row
  pub row : table_at top place.row ≡ Some table

-- the row has a name that is none of its own keys
pub record IsUnknownAt (top : Members) (place : Place) : Type 0 where
  pub no_key : place.key ≡ 0
  pub table : Members
  pub row : table_at top place.row ≡ Some table
  pub name : List ℕ
  pub stands : IsSome (get_member name table)
  pub unknown : (key : Key) → IsOwn key place.row → name_of key ≢ name

-- the row lacks the key
pub record IsMissingAt (top : Members) (place : Place) : Type 0 where
  pub key : Key
  pub table : Members
  pub at : IsKeyOf top place key table
  pub missing : value_at key table ≡ None

-- the value is what the key wants: an array at `particle`, an integer at any other key
abbrev pub IsOfKind : Option (ℤ × ℤ) → Data → Type 0
IsOfKind None value = IsSome (as_array value)
IsOfKind (Some range) value = IsSome (as_integer value)

-- the value at the key is of another kind
pub record IsWrongAt (top : Members) (place : Place) : Type 0 where
  pub key : Key
  pub table : Members
  pub at : IsKeyOf top place key table
  pub value : Data
  pub found : value_at key table ≡ Some value
  pub wrong : IsOfKind (range_of key) value → ⊥

-- the element of the array of particles is no table
pub record IsNoTableAt (top : Members) (place : Place) : Type 0 where
  pub number : place.key ≡ number_of Particle
  pub index : ℕ
  pub row : place.row ≡ suc index
  pub element : Data
  pub found : slice_get (elements top) index ≡ Some element
  pub no_table : as_table element ≡ None

-- the integer at the key is outside the key's range
pub record IsOutside (top : Members) (place : Place) (z : ℤ) : Type 0 where
  pub key : Key
  pub table : Members
  pub at : IsKeyOf top place key table
  pub found : value_at key table ≡ Some (integer z)
  pub low : ℤ
  pub high : ℤ
  pub range : range_of key ≡ Some (low, high)
  pub outside : (low ≤ℤ z) × (z ≤ℤ high) → ⊥

-- there is an array of particles, of this many elements
pub record HasElements (top : Members) (count : ℕ) : Type 0 where
  pub items : Items
  pub found : value_at Particle top ≡ Some (array items)
  pub count_is : length (elements top) ≡ count

-- the faults of a document's rows and of its number of particles
abbrev pub StandsInTable : Members → DeckFault → Type 0
StandsInTable top (Unknown place) = IsUnknownAt top place
StandsInTable top (Missing place) = IsMissingAt top place
StandsInTable top (WrongKind place) = IsWrongAt top place ⊎ IsNoTableAt top place
StandsInTable top (OutOfRange place z) = IsOutside top place z
StandsInTable top NoParticles = HasElements top 0
StandsInTable top (TooMany count) = HasElements top count × (most_particles < count)
StandsInTable top _ = ⊥

-- every number can be read: no fault but those between the numbers themselves
pub record IsReadable (bytes : List ℕ) (top : Members) : Type 0 where
  pub short : length bytes ≤ longest_text
  pub document : IsDocument bytes top
  pub clean : (fault : DeckFault) → StandsInTable top fault → ⊥

-- its numbers do not fit together
abbrev pub DisagreesIn : List ℕ → DeckFault → Type 0
DisagreesIn bytes fault = (top : Members) × IsReadable bytes top × Disagree (params_of top) (particles_of top) fault

-- where each fault stands
abbrev pub Stands : List ℕ → DeckFault → Type 0
Stands bytes TooLong = longest_text < length bytes
Stands bytes NotToml = (top : Members) → IsDocument bytes top → ⊥
Stands bytes (BadEvery every unit) = DisagreesIn bytes (BadEvery every unit)
Stands bytes (BadTicks ticks every) = DisagreesIn bytes (BadTicks ticks every)
Stands bytes (BadBins low high) = DisagreesIn bytes (BadBins low high)
Stands bytes (Sums bound) = DisagreesIn bytes (Sums bound)
Stands bytes fault = (top : Members) × IsDocument bytes top × StandsInTable top fault

-- no fault stands
abbrev pub IsAccepted : List ℕ → Type 0
IsAccepted bytes = (fault : DeckFault) → Stands bytes fault → ⊥

-- the deck's numbers are those of the bytes
pub record IsDeckOf (bytes : List ℕ) (deck : Deck) : Type 0 where
  pub top : Members
  pub document : IsDocument bytes top
  pub params : deck.params ≡ params_of top
  pub particles : deck.particles ≡ particles_of top
