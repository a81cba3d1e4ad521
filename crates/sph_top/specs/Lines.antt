-- The line that each answer writes on standard error.
use Rattle.std.specs.Prelude.{ℕ, List, [], ◌∷◌, ◌++◌, codes}
use Rattle.sph_report.specs.DeckLines.{deck_line}
use Rattle.sph_report.specs.WordsLines.{words_line}
use Rattle.sph_top.specs.declared.status.Status.{Status}
use Rattle.sph_top.specs.declared.status.Status.TheVariants.{Done, Usage, DeckRefused, ReadFault, WriteFault, NoMemory}

-- a text and the end of its line
abbrev pub line : List ℕ → List ℕ
line text = text ++ 10 ∷ []

-- the line of an answer; none for Done
unfoldable pub error_line : Status → List ℕ
error_line Done = []
error_line (Usage fault) = words_line fault
error_line (DeckRefused fault) = deck_line fault
error_line ReadFault = line (codes "swiftq: read fault")
error_line WriteFault = line (codes "swiftq: write fault")
error_line NoMemory = line (codes "swiftq: no memory")

-- the exit status of the process
abbrev pub exit_status : Status → ℕ
exit_status Done = 0
exit_status (Usage fault) = 2
exit_status (DeckRefused fault) = 3
exit_status ReadFault = 4
exit_status WriteFault = 5
exit_status NoMemory = 6
