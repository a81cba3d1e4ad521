-- The table of a deck's keys.
use Rattle.std.specs.Prelude.{ℕ, ◌-◌, zero, suc, ℤ, pos, neg_ℤ, List, [], ◌∷◌, codes, slice_get, nat_le, Option, Some, None, Bool, true, false, ◌≡◌}
use Rattle.sph_num.specs.Space.{box_side}
use Rattle.sph_deck.specs.declared.key.Key.{Key}
use Rattle.sph_deck.specs.declared.key.Key.TheVariants.{Ticks, Every, BinMin, BinMax, Sound, Shift, Accuracy, Leaf, Pairs, Slack, Particle, Mass, H, X, Y, Z, Px, Py, Pz}

-- an entry of the table: a key's number, its name, and the least and the greatest integer that it takes; no range where it wants an array of tables
pub record Entry : Type 0 where
  pub number : ℕ
  pub name : List ℕ
  pub range : Option (ℤ × ℤ)

-- an entry from its parts
abbrev pub entry : ℕ → List ℕ → Option (ℤ × ℤ) → Entry
entry number name range = record { number = number; name = name; range = range }

-- the range of a whole number
abbrev pub from_to : ℕ → ℕ → Option (ℤ × ℤ)
from_to least most = Some (pos least, pos most)

-- the range of a coordinate, in length units
abbrev pub coordinate : Option (ℤ × ℤ)
coordinate = from_to 0 (box_side - 1)

-- the range of a component of a momentum
abbrev pub momentum : Option (ℤ × ℤ)
momentum = Some (neg_ℤ (pos 9223372036854775807), pos 9223372036854775807)

-- the table: the keys of the top, down to `particle`, and those of a particle
abbrev pub entry_of : Key → Entry
entry_of Ticks = entry 1 (codes "ticks") (from_to 0 65536)
entry_of Every = entry 2 (codes "every") (from_to 1 65536)
entry_of BinMin = entry 3 (codes "bin_min") (from_to 0 10)
entry_of BinMax = entry 4 (codes "bin_max") (from_to 0 10)
entry_of Sound = entry 5 (codes "sound") (from_to 1 65536)
entry_of Shift = entry 6 (codes "shift") (from_to 0 60)
entry_of Accuracy = entry 7 (codes "accuracy") (from_to 0 4294967295)
entry_of Leaf = entry 8 (codes "leaf") (from_to 1 256)
entry_of Pairs = entry 9 (codes "pairs") (from_to 1 1073741824)
entry_of Slack = entry 10 (codes "slack") (from_to 0 65535)
entry_of Particle = entry 11 (codes "particle") None
entry_of Mass = entry 12 (codes "mass") (from_to 1 65536)
entry_of H = entry 13 (codes "h") (from_to 1024 131072)
entry_of X = entry 14 (codes "x") coordinate
entry_of Y = entry 15 (codes "y") coordinate
entry_of Z = entry 16 (codes "z") coordinate
entry_of Px = entry 17 (codes "px") momentum
entry_of Py = entry 18 (codes "py") momentum
entry_of Pz = entry 19 (codes "pz") momentum

-- a key's number
abbrev pub number_of : Key → ℕ
number_of key = (entry_of key).number

-- a key's name
abbrev pub name_of : Key → List ℕ
name_of key = (entry_of key).name

-- the integers that a key takes
abbrev pub range_of : Key → Option (ℤ × ℤ)
range_of key = (entry_of key).range

-- the keys in the order of their numbers, from 1
abbrev pub keys : List Key
keys =
    Ticks ∷ Every ∷ BinMin ∷ BinMax ∷ Sound ∷ Shift ∷ Accuracy ∷ Leaf ∷ Pairs ∷ Slack ∷ Particle
    ∷ Mass ∷ H ∷ X ∷ Y ∷ Z ∷ Px ∷ Py ∷ Pz ∷ []

-- the key of a number, if there is one
abbrev pub key_numbered : ℕ → Option Key
key_numbered zero = None
key_numbered (suc i) = slice_get keys i

-- the key stands at the top
abbrev pub is_of_top : Key → Bool
is_of_top key = nat_le (number_of key) (number_of Particle)

-- the row is the top
abbrev pub is_top : ℕ → Bool
is_top zero = true
is_top (suc i) = false

-- the key is one of the row's own: row 0 is the top, any other a particle
abbrev pub IsOwn : Key → ℕ → Type 0
IsOwn key row = is_of_top key ≡ is_top row
