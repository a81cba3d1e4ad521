-- What the lists that the code keeps stand for: a shape, and a machine.
use Rattle.std.specs.Prelude.{ℕ, List, Option}
use Rattle.qs_core.specs.declared.event.Note.{Note}
use Rattle.qs_core.specs.Shape.{Shape, TaskShape}
use Rattle.qs_core.specs.Core.{View}
use Rattle.qs_core.specs.Machine.{Machine}

-- the shape that these lists make
abbrev pub shape_of : List (Option ℕ) → List (ℕ × ℕ) → ℕ → List TaskShape → Shape
shape_of parents ranges leaves tasks = record { parents = parents; ranges = ranges; leaves = leaves; tasks = tasks }

-- the machine that these lists make
abbrev pub machine_of : Shape → List ℕ → List View → List (Option Note) → Machine
machine_of shape words views notes = record { shape = shape; core = record { words = words; views = views }; notes = notes }
