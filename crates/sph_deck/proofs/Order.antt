-- The order of faults.
use Rattle.std.proofs.Common.{◌≡◌, ℕ, ◌<◌, ◌≤◌, ◌⊎◌, inl, inr, refl, arith}
use Rattle.sph_deck.specs.declared.fault.DeckFault.{DeckFault}
use Rattle.sph_deck.specs.FirstFault.{kind_of, place_of, IsNoLater}

-- three numbers come no later than three others, by the first, then by the second, then by the third
abbrev AreNoLater : (k r c k' r' c' : ℕ) → Type 0
AreNoLater k r c k' r' c' = (k < k') ⊎ ((k ≡ k') × ((r < r') ⊎ ((r ≡ r') × (c ≤ c'))))

-- the same of the last two
abbrev ArePlacesNoLater : (r c r' c' : ℕ) → Type 0
ArePlacesNoLater r c r' c' = (r < r') ⊎ ((r ≡ r') × (c ≤ c'))

places-trans : (r c r' c' r'' c'' : ℕ) → ArePlacesNoLater r c r' c' → ArePlacesNoLater r' c' r'' c'' → ArePlacesNoLater r c r'' c''
places-trans r c r' c' r'' c'' (inl a) (inl b) = inl (omega arith)
places-trans r c r' c' r'' c'' (inl a) (inr b) = inl (omega arith)
places-trans r c r' c' r'' c'' (inr a) (inl b) = inl (omega arith)
places-trans r c r' c' r'' c'' (inr a) (inr b) = inr (omega arith, omega arith)

numbers-trans : (k r c k' r' c' k'' r'' c'' : ℕ) → AreNoLater k r c k' r' c' → AreNoLater k' r' c' k'' r'' c'' → AreNoLater k r c k'' r'' c''
numbers-trans k r c k' r' c' k'' r'' c'' (inl a) (inl b) = inl (omega arith)
numbers-trans k r c k' r' c' k'' r'' c'' (inl a) (inr b) = inl (omega (arith, b.0))
numbers-trans k r c k' r' c' k'' r'' c'' (inr a) (inl b) = inl (omega (arith, a.0))
numbers-trans k r c k' r' c' k'' r'' c'' (inr a) (inr b) = inr (omega (arith, a.0, b.0), places-trans r c r' c' r'' c'' a.1 b.1)

-- a fault comes no later than itself
pub no_later-refl : (a : DeckFault) → IsNoLater a a
no_later-refl a = inr (refl, inr (refl, omega arith))

-- of three faults in a row the first comes no later than the last
pub no_later-trans : (a b c : DeckFault) → IsNoLater a b → IsNoLater b c → IsNoLater a c
no_later-trans a b c h k =
    numbers-trans (kind_of a) (place_of a).row (place_of a).key (kind_of b) (place_of b).row (place_of b).key (kind_of c) (place_of c).row (place_of c).key h k
