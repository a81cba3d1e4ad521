-- What a call does to the bytes that a source has left and a sink holds, where those are told.
use Rattle.std.specs.Prelude.{◌≡◌, ℕ, ◌<◌, ◌≤◌, List, length, take, Option, Result, IfOk, MatchResult}
use Rattle.std.specs.Io.KnownBytes.{Appends, Consumes, IsAtEnd}

-- the source gave these bytes and is at its end
pub record GaveAll (before after : Option (List ℕ)) (bytes : List ℕ) : Type 0 where
  pub gave : Consumes before after bytes
  pub ended : IsAtEnd after

-- the sink holds some of the piece's first bytes more
pub record AppendsPrefix (before after : Option (List ℕ)) (piece : List ℕ) : Type 0 where
  pub count : ℕ
  pub within : count ≤ length piece
  pub appended : Appends before after (take count piece)

-- what a take did: at Ok n the first n bytes of `into` came, and none only at the end or for no room
abbrev pub TakesBytes : {E : Type 0} → Option (List ℕ) → Option (List ℕ) → Result ℕ E → List ℕ → Type 0
TakesBytes before after result into =
    IfOk result (λ n. Consumes before after (take n into) × (n ≡ 0 → 0 < length into → IsAtEnd after))

-- what a give did: at Ok n the piece's first n bytes went, at least one of a piece that isn't empty
abbrev pub GivesBytes : {E : Type 0} → Option (List ℕ) → Option (List ℕ) → Result ℕ E → List ℕ → Type 0
GivesBytes before after result piece =
    MatchResult result
    (λ n. (n ≤ length piece) × (0 < length piece → 0 < n) × Appends before after (take n piece))
    (λ _. AppendsPrefix before after piece)
