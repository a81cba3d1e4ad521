-- What a run of a deck's text answers: the one statement for which the rest is written.
use Rattle.std.specs.Prelude.{◌≡◌, ℕ, ◌⊎◌, List, Result, Ok, Err, MatchResult, Vec, ⊤}
use Rattle.std.specs.declared.alloc.Global.{Global}
use Rattle.sph_deck.specs.declared.deck.Deck.{Deck}
use Rattle.sph_deck.specs.declared.fault.DeckFault.{DeckFault}
use Rattle.sph_deck.specs.FirstFault.{IsFirstFault}
use Rattle.sph_run.specs.Stream.{deck_stream}
use Rattle.sph_top.specs.Answers.{IsAcceptedDeck}
use Rattle.sph_top.specs.declared.bytes.RunRefusal.{RunRefusal}
use Rattle.sph_top.specs.declared.bytes.RunRefusal.TheVariants.{DeckRefused, NoMemory}

-- what each answer says of the text: a stream is that of the text's accepted deck, and a fault is the text's first
abbrev pub AnswersText : List ℕ → Result (Vec ℕ Global) RunRefusal → Type 0
AnswersText text (Ok stream) = (deck : Deck) × IsAcceptedDeck text deck × (stream.items ≡ deck_stream deck)
AnswersText text (Err (DeckRefused fault)) = IsFirstFault text fault
AnswersText text (Err NoMemory) = ⊤

-- An accepted deck's text gives the stream of that deck, and any other its first fault, unless memory ran out. The third part
-- says it from the answer's side: which of the two a text is, the answer decides.
pub record Headline (text : List ℕ) (answer : Result (Vec ℕ Global) RunRefusal) : Type 0 where
  pub accepted : (deck : Deck) → IsAcceptedDeck text deck → MatchResult answer (λ stream. stream.items ≡ deck_stream deck) (λ refusal. refusal ≡ NoMemory)
  pub refused : (fault : DeckFault) → IsFirstFault text fault → (answer ≡ Err (DeckRefused fault)) ⊎ (answer ≡ Err NoMemory)
  pub answers : AnswersText text answer
