-- The line for a deck that is only checked.
use Rattle.std.specs.Prelude.{ℕ, List, [], ◌∷◌, ◌++◌, codes, decimal, length}
use Rattle.sph_deck.specs.Bound.{bound_of}
use Rattle.sph_deck.specs.declared.deck.Deck.{Deck}

-- the number of particles, and what the momenta may reach, with the line's end
abbrev pub check_line : Deck → List ℕ
check_line deck =
    codes "accepted: particles " ++ decimal (length deck.particles) ++ codes " bound " ++ decimal (bound_of deck.params deck.particles) ++ 10 ∷ []
