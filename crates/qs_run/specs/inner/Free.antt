-- A small work of the tests: a cell with three cells below it, each of which has one leaf and one task. No task waits for another.
use Rattle.std.specs.Prelude.{ℕ, zero, suc, List, [], ◌∷◌, None, Some}
use Rattle.qs_core.specs.Shape.{Shape, TaskShape}

abbrev pub free_task : ℕ → ℕ → TaskShape
free_task cell weight = record { first = cell; second = None; successors = []; weight = weight }

abbrev pub free_tasks : Shape
free_tasks = record {
  parents = None ∷ Some 0 ∷ Some 0 ∷ Some 0 ∷ [];
  ranges = (0, 3) ∷ (0, 1) ∷ (1, 2) ∷ (2, 3) ∷ [];
  leaves = 3;
  tasks = free_task 1 1 ∷ free_task 2 2 ∷ free_task 3 0 ∷ [];
}

-- the tasks that are done on a leaf: just that with its number, where it was done at all
abbrev pub done_times : ℕ → ℕ → List ℕ
done_times leaf zero = []
done_times leaf (suc times) = leaf ∷ []
