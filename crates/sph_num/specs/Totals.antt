-- Sums of signed numbers.
use Rattle.std.specs.Prelude.{ℕ, ℤ, pos, ◌+ℤ◌, List, ◌∷◌, slice_index_or, []}

-- the sum of a number for each element
abbrev pub total_by : {A : Type 0} → (A → ℤ) → List A → ℤ
total_by f [] = pos 0
total_by f (x ∷ xs) = f x +ℤ total_by f xs

-- the component of a vector on an axis: x is 0, y is 1, z is 2
abbrev pub component : List ℤ → ℕ → ℤ
component vector axis = slice_index_or vector axis (pos 0)

-- the vector whose components are 0
abbrev pub zero_vector : List ℤ
zero_vector = pos 0 ∷ pos 0 ∷ pos 0 ∷ []

-- the vector of these components
abbrev pub vector_of : (ℕ → ℤ) → List ℤ
vector_of f = f 0 ∷ f 1 ∷ f 2 ∷ []
