-- The proper ancestors of all cells in one list.
use Rattle.std.specs.Prelude.{ℕ, ◌≤◌, List, [], ◌∷◌, All, length, get_or, Option, Some, None}
use Rattle.std.specs.List.{slice_range}

-- the part of a list from one place up to another
abbrev pub cut : List ℕ → ℕ × ℕ → List ℕ
cut above line = slice_range above line.0 line.1

-- the lines are parts of the list
abbrev pub AreCuts : List ℕ → List (ℕ × ℕ) → Type 0
AreCuts above lines = All (λ (line : ℕ × ℕ). (line.0 ≤ line.1) × (line.1 ≤ length above)) lines

-- the ancestors of a cell with this parent, where those of the cells before are known
abbrev pub line_of : List (List ℕ) → Option ℕ → List ℕ
line_of known None = []
line_of known (Some parent) = parent ∷ get_or known parent []
