-- What a call does to a sink that grows.
use Rattle.std.specs.Prelude.{◌≡◌, ℕ, List, length, Option, Result, MatchResult}
use Rattle.std.specs.Io.KnownBytes.{Appends}

-- the whole piece went, or nothing of it where memory ran out
abbrev pub TakesWhole : {E : Type 0} → Option (List ℕ) → Option (List ℕ) → Result ℕ E → List ℕ → Type 0
TakesWhole before after result piece = MatchResult result (λ count. (count ≡ length piece) × Appends before after piece) (λ _. after ≡ before)
