-- The line of a deck that is only checked.
use Rattle.std.proofs.Common.{◌≡◌, ℕ, List, [], ◌∷◌, ◌++◌, length, append_assoc}
use Rattle.std.specs.Prelude.{codes, decimal}
use Rattle.sph_deck.specs.Bound.{bound_of}
use Rattle.sph_deck.specs.declared.deck.Deck.{Deck}
use Rattle.sph_report.specs.CheckLine.{check_line}

-- A format's pieces are joined from the right, and the words of the line from the left.
pub line_joined : (deck : Deck) (text : List ℕ)
    → text ≡ codes "accepted: particles " ++ (decimal (length deck.particles) ++ (codes " bound " ++ (decimal (bound_of deck.params deck.particles) ++ 10 ∷ [])))
    → text ≡ check_line deck
line_joined deck text is = simp append_assoc is
