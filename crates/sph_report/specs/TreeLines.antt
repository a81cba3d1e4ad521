-- The lines of a deck whose tree and graph are shown: the tree of the deck's places, the cover where every particle is due, and the graph
-- without drifts.
use Rattle.std.specs.Prelude.{ℕ, Bool, true, false, List, [], ◌∷◌, ◌++◌, codes, decimal, map, filter, length, replicate, sum_by, count_by}
use Rattle.sph_num.specs.Bound.{greatest_of}
use Rattle.sph_num.specs.declared.kind.Kind.{Kind}
use Rattle.sph_num.specs.declared.kind.Kind.TheVariants.{Density, Ghost, Force, Kick}
use Rattle.sph_num.specs.Kinds.{same_kind}
use Rattle.sph_deck.specs.declared.deck.Deck.{Deck}
use Rattle.cell_tree.specs.Tree.{Made, cells_of, is_leaf, leaf_count, made_of}
use Rattle.pair_cover.specs.Looks.{spans_of}
use Rattle.task_graph.specs.Graph.{Plan, graph_of}

-- the tree of the places of a deck's particles
abbrev pub tree_of : Deck → Made
tree_of deck = made_of (map (λ p. p.x0) deck.particles) (map (λ p. p.h) deck.particles) deck.params.leaf

-- every particle is due
abbrev pub all_due : Deck → List Bool
all_due deck = replicate (length deck.particles) true

-- the graph of its cover
abbrev pub graph_of_deck : Deck → Plan
graph_of_deck deck =
    graph_of (tree_of deck) (spans_of (tree_of deck) (all_due deck) (record { pairs = deck.params.pairs; slack = deck.params.slack })) (all_due deck) false

-- the greatest level of a cell
abbrev pub greatest_level : Made → ℕ
greatest_level made = greatest_of (map (λ cell. cell.cube.level) (cells_of made))

-- the greatest number of members of a leaf
abbrev pub largest_leaf : Made → ℕ
largest_leaf made = greatest_of (map (λ cell. length cell.members) (filter (is_leaf made) (cells_of made)))

-- the number of tasks of a kind
abbrev pub tasks_of_kind : Kind → Plan → ℕ
tasks_of_kind kind plan = count_by (λ task. same_kind kind task.kind) plan.tasks

-- the number of edges
abbrev pub edge_count : Plan → ℕ
edge_count plan = sum_by length plan.successors

-- the greatest weight
abbrev pub heaviest_weight : Plan → ℕ
heaviest_weight plan = greatest_of plan.weights

-- a word and a number
abbrev pub entry : List ℕ → ℕ → List ℕ
entry word number = word ++ decimal number

-- the line of the tree
abbrev pub line_of_tree : ℕ → Made → List ℕ
line_of_tree particles made =
    entry (codes "particles ") particles
    ++ entry (codes " cells ") (length (cells_of made))
    ++ entry (codes " leaves ") (leaf_count made)
    ++ entry (codes " deepest ") (greatest_level made)
    ++ entry (codes " largest ") (largest_leaf made)
    ++ 10 ∷ []

-- the line of the graph
abbrev pub line_of_graph : Plan → List ℕ
line_of_graph plan =
    entry (codes "density ") (tasks_of_kind Density plan)
    ++ entry (codes " ghost ") (tasks_of_kind Ghost plan)
    ++ entry (codes " force ") (tasks_of_kind Force plan)
    ++ entry (codes " kick ") (tasks_of_kind Kick plan)
    ++ entry (codes " edges ") (edge_count plan)
    ++ entry (codes " heaviest ") (heaviest_weight plan)
    ++ 10 ∷ []

-- the two lines of a deck
abbrev pub tree_lines : Deck → List ℕ
tree_lines deck = line_of_tree (length deck.particles) (tree_of deck) ++ line_of_graph (graph_of_deck deck)
