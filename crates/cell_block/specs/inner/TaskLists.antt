-- The lists of tasks at the leaves, while they are made.
use Rattle.std.specs.Prelude.{◌≡◌, ℕ, Bool, if◌then◌else◌, List, [], ◌∷◌, ◌++◌, slice_index_or}

-- the task is added behind the list of each leaf that passes, and the others stay
pub record AddsTask (passes : ℕ → Bool) (task : ℕ) (lists lists' : List (List ℕ)) : Type 0 where
  pub each : (leaf : ℕ) → slice_index_or lists' leaf [] ≡ slice_index_or lists leaf [] ++ (if passes leaf then task ∷ [] else [])
