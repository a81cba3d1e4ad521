-- The tasks of a scene with one leaf, for the tests.
use Rattle.std.specs.Prelude.{Bool, true, false, List, [], ◌∷◌, None}
use Rattle.sph_num.specs.declared.kind.Kind.TheVariants.{Drift, Density, Ghost, Force, Kick}
use Rattle.cell_block.specs.declared.scene.TaskLine.{TaskLine}
use Rattle.cell_block.specs.Scene.{RangeSpan, leaf_line, span_line}

-- the span of the one leaf
abbrev pub only_span : RangeSpan
only_span = record { first = (0, 1); second = None }

-- its tasks, where the leaf has a due member, and those with a drift
abbrev pub four_lines : List TaskLine
four_lines = span_line Density only_span ∷ leaf_line Ghost 0 ∷ span_line Force only_span ∷ leaf_line Kick 0 ∷ []

abbrev pub one_leaf_lines : Bool → List TaskLine
one_leaf_lines true = leaf_line Drift 0 ∷ four_lines
one_leaf_lines false = four_lines
