-- Which fault of a deck is answered: the first one by its kind, then by its row, then by its key.
use Rattle.std.specs.Prelude.{◌≡◌, ℕ, ◌<◌, ◌≤◌, ◌⊎◌, List, Result, Ok, Err, ⊤}
use Rattle.sph_deck.specs.declared.deck.Deck.{Deck}
use Rattle.sph_deck.specs.declared.fault.DeckFault.{DeckFault}
use Rattle.sph_deck.specs.declared.fault.DeckFault.TheVariants.{TooLong, NotToml, Unknown, Missing, WrongKind, OutOfRange, NoParticles, TooMany, BadEvery, BadTicks, BadBins, Sums}
use Rattle.sph_deck.specs.declared.fault.Place.{Place}
use Rattle.sph_deck.specs.declared.refusal.DeckRefusal.{DeckRefusal}
use Rattle.sph_deck.specs.declared.refusal.DeckRefusal.TheVariants.{Fault, Memory}
use Rattle.sph_deck.specs.Faults.{IsAccepted, IsDeckOf, Stands}

-- the number of a fault's kind
abbrev pub kind_of : DeckFault → ℕ
kind_of TooLong = 1
kind_of NotToml = 2
kind_of (Unknown place) = 3
kind_of (Missing place) = 4
kind_of (WrongKind place) = 5
kind_of (OutOfRange place value) = 6
kind_of NoParticles = 7
kind_of (TooMany count) = 8
kind_of (BadEvery every unit) = 9
kind_of (BadTicks ticks every) = 10
kind_of (BadBins low high) = 11
kind_of (Sums bound) = 12

-- where a fault stands; the top for one that has no place
abbrev pub place_of : DeckFault → Place
place_of (Unknown place) = place
place_of (Missing place) = place
place_of (WrongKind place) = place
place_of (OutOfRange place value) = place
place_of _ = record { key = 0; row = 0 }

-- the one place comes no later than the other: by row, then by key
abbrev pub IsPlaceNoLater : Place → Place → Type 0
IsPlaceNoLater a b = (a.row < b.row) ⊎ ((a.row ≡ b.row) × (a.key ≤ b.key))

-- the one fault comes no later than the other: by kind, then by place
abbrev pub IsNoLater : DeckFault → DeckFault → Type 0
IsNoLater a b = (kind_of a < kind_of b) ⊎ ((kind_of a ≡ kind_of b) × IsPlaceNoLater (place_of a) (place_of b))

-- the first fault of the bytes: it stands, and none that stands comes before it
pub record IsFirstFault (bytes : List ℕ) (fault : DeckFault) : Type 0 where
  pub stands : Stands bytes fault
  pub first : (other : DeckFault) → Stands bytes other → IsNoLater fault other

-- what each answer says of the bytes
abbrev pub AnswersDeck : List ℕ → Result Deck DeckRefusal → Type 0
AnswersDeck bytes (Ok deck) = IsAccepted bytes × IsDeckOf bytes deck
AnswersDeck bytes (Err (Fault fault)) = IsFirstFault bytes fault
AnswersDeck bytes (Err Memory) = ⊤
