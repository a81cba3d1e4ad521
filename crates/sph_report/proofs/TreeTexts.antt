-- The lines of a tree and of a graph: a format's pieces are joined from the right, and the entries of a line from the left.
use Rattle.std.proofs.Common.{◌≡◌, ℕ, List, [], ◌∷◌, ◌++◌, length, append_assoc, ◌∙◌}
use Rattle.std.specs.Prelude.{codes, decimal, string_bytes, IfOk, Result, String}
use Rattle.std.specs.declared.alloc.Global.{Global}
use Rattle.std.proofs.lemmas.Result.{IfOk-weaker}
use Rattle.cell_tree.specs.Tree.{Made, cells_of, leaf_count}
use Rattle.sph_num.specs.declared.kind.Kind.TheVariants.{Density, Ghost, Force, Kick}
use Rattle.task_graph.specs.Graph.{Plan}
use Rattle.sph_report.specs.TreeLines.{greatest_level, largest_leaf, tasks_of_kind, edge_count, heaviest_weight, line_of_tree, line_of_graph}

-- the pieces of the tree's format
abbrev pub tree_pieces : ℕ → ℕ → ℕ → ℕ → ℕ → List ℕ
tree_pieces particles cells leaves deepest largest =
    codes "particles "
    ++ (decimal particles
    ++ (codes " cells "
    ++ (decimal cells ++ (codes " leaves " ++ (decimal leaves ++ (codes " deepest " ++ (decimal deepest ++ (codes " largest " ++ (decimal largest ++ 10 ∷ [])))))))))

-- and of the two of the graph's
abbrev pub task_pieces : ℕ → ℕ → ℕ → ℕ → List ℕ
task_pieces density ghosts force kick =
    codes "density " ++ (decimal density ++ (codes " ghost " ++ (decimal ghosts ++ (codes " force " ++ (decimal force ++ (codes " kick " ++ decimal kick))))))

abbrev pub graph_pieces : List ℕ → ℕ → ℕ → List ℕ
graph_pieces tasks edges heaviest = tasks ++ (codes " edges " ++ (decimal edges ++ (codes " heaviest " ++ (decimal heaviest ++ 10 ∷ []))))

-- five entries and an end, and six
entries : (a b c d e : List ℕ) (p q r s t : List ℕ) (end : List ℕ)
    → a ++ (p ++ (b ++ (q ++ (c ++ (r ++ (d ++ (s ++ (e ++ (t ++ end))))))))) ≡ (a ++ p) ++ (b ++ q) ++ (c ++ r) ++ (d ++ s) ++ (e ++ t) ++ end
entries a b c d e p q r s t end = simp append_assoc

more_entries : (a b c d e f : List ℕ) (p q r s t u : List ℕ) (end : List ℕ)
    → (a ++ (p ++ (b ++ (q ++ (c ++ (r ++ (d ++ s))))))) ++ (e ++ (t ++ (f ++ (u ++ end))))
    ≡ (a ++ p) ++ (b ++ q) ++ (c ++ r) ++ (d ++ s) ++ (e ++ t) ++ (f ++ u) ++ end
more_entries a b c d e f p q r s t u end = simp append_assoc

-- the pieces are the line, where the numbers are the tree's
pub tree_line_joined : (particles cells leaves deepest largest : ℕ) (made : Made)
    → particles ≡ length made.points → cells ≡ length (cells_of made) → leaves ≡ leaf_count made → deepest ≡ greatest_level made → largest ≡ largest_leaf made
    → tree_pieces particles cells leaves deepest largest ≡ line_of_tree (length made.points) made
tree_line_joined particles cells leaves deepest largest made particles_are cells_are leaves_are deepest_is largest_is =
    rw (particles_are, cells_are, leaves_are, deepest_is, largest_is)
    (entries (codes "particles ") (codes " cells ") (codes " leaves ") (codes " deepest ") (codes " largest ") _ _ _ _ _ (10 ∷ []))

-- and where they are the graph's
pub graph_line_joined : (density ghosts force kick edges heaviest : ℕ) (tasks : List ℕ) (graph : Plan)
    → density ≡ tasks_of_kind Density graph → ghosts ≡ tasks_of_kind Ghost graph → force ≡ tasks_of_kind Force graph → kick ≡ tasks_of_kind Kick graph
    → edges ≡ edge_count graph → heaviest ≡ heaviest_weight graph → tasks ≡ task_pieces density ghosts force kick
    → graph_pieces tasks edges heaviest ≡ line_of_graph graph
graph_line_joined density ghosts force kick edges heaviest tasks graph density_is ghosts_are force_is kick_is edges_are heaviest_is tasks_are =
    rw (tasks_are, density_is, ghosts_are, force_is, kick_is, edges_are, heaviest_is)
    (more_entries (codes "density ") (codes " ghost ") (codes " force ") (codes " kick ") (codes " edges ") (codes " heaviest ") _ _ _ _ _ _ (10 ∷ []))

-- a text that was written as these pieces is the line that they are
pub line_written : {E : Type 0} (text : Result (String Global) E) {pieces line : List ℕ} → pieces ≡ line → IfOk text (λ s. string_bytes s ≡ pieces) → IfOk text (λ s. string_bytes s ≡ line)
line_written text {pieces} {line} joined wrote = IfOk-weaker text (λ s. string_bytes s ≡ pieces) (λ s. string_bytes s ≡ line) (λ s is. is ∙ joined) wrote
