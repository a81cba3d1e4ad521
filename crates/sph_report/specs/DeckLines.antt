-- The line on standard error for each fault of a deck.
use Rattle.std.specs.Prelude.{ℕ, zero, suc, ◌≤◌, List, [], ◌∷◌, ◌++◌, codes, decimal, ⊤}
use Rattle.std.specs.Fmt.{signed_decimal}
use Rattle.std.specs.Option.{option_map_or}
use Rattle.sph_deck.specs.declared.fault.DeckFault.{DeckFault}
use Rattle.sph_deck.specs.declared.fault.DeckFault.TheVariants.{TooLong, NotToml, Unknown, Missing, WrongKind, OutOfRange, NoParticles, TooMany, BadEvery, BadTicks, BadBins, Sums}
use Rattle.sph_deck.specs.declared.fault.Place.{Place}
use Rattle.sph_deck.specs.Keys.{key_numbered, name_of}

-- the name of the key of this number, and no text where there is none
abbrev pub name_numbered : ℕ → List ℕ
name_numbered number = option_map_or name_of (key_numbered number) []

-- the row of a place: the top, or a particle by its number
abbrev pub row_text : ℕ → List ℕ
row_text zero = codes "the top"
row_text (suc i) = codes "particle " ++ decimal (suc i)

-- the key at its row
abbrev pub place_text : Place → List ℕ
place_text place = name_numbered place.key ++ codes " at " ++ row_text place.row

-- what is wrong
abbrev pub fault_text : DeckFault → List ℕ
fault_text TooLong = codes "longer than 16777216 bytes"
fault_text NotToml = codes "not TOML"
fault_text (Unknown place) = codes "unknown key at " ++ row_text place.row
fault_text (Missing place) = codes "missing " ++ place_text place
fault_text (WrongKind place) = codes "wrong kind of " ++ place_text place
fault_text (OutOfRange place value) = place_text place ++ codes " out of range: " ++ signed_decimal value
fault_text NoParticles = codes "no particles"
fault_text (TooMany count) = codes "too many particles: " ++ decimal count
fault_text (BadEvery every unit) = codes "every " ++ decimal every ++ codes " is not a multiple of " ++ decimal unit
fault_text (BadTicks ticks every) = codes "ticks " ++ decimal ticks ++ codes " is not a multiple of " ++ decimal every
fault_text (BadBins low high) = codes "bin_min " ++ decimal low ++ codes " is above bin_max " ++ decimal high
fault_text (Sums bound) = codes "sums may reach " ++ decimal bound

-- the line, with its end
abbrev pub deck_line : DeckFault → List ℕ
deck_line fault = codes "swiftq: deck refused: " ++ fault_text fault ++ 10 ∷ []

-- the number is a key's
pub record IsKeyNumber (place : Place) : Type 0 where
  pub low : 1 ≤ place.key
  pub high : place.key ≤ 19

-- the place of a fault that names its key has the number of a key
abbrev pub NamesKey : DeckFault → Type 0
NamesKey (Missing place) = IsKeyNumber place
NamesKey (WrongKind place) = IsKeyNumber place
NamesKey (OutOfRange place value) = IsKeyNumber place
NamesKey _ = ⊤
