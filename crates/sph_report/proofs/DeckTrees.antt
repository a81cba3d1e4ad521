-- The tree of an accepted deck, and its cover.
use Rattle.std.proofs.Common.{◌≡◌, ℕ, ◌<◌, List, [], ◌++◌, length, map, sym, ap, ◌∙◌, arith, subst}
use Rattle.std.proofs.lemmas.List.{get_or-map, length-map}
use Rattle.sph_num.specs.declared.particle.Params.{Params}
use Rattle.sph_num.specs.declared.particle.Particle.{Particle}
use Rattle.sph_num.specs.Space.{IsPlace}
use Rattle.sph_num.specs.Ranges.{IsLength}
use Rattle.sph_num.proofs.PastEnd.{no_particle}
use Rattle.sph_deck.specs.Accepted.{AreAccepted}
use Rattle.sph_deck.specs.declared.deck.Deck.{Deck}
use Rattle.cell_tree.specs.Laws.{CanBeMade}
use Rattle.cell_tree.specs.Tree.{Made, made_of}
use Rattle.task_graph.specs.Graph.{Plan}
use Rattle.sph_report.specs.TreeLines.{tree_of, graph_of_deck, line_of_tree, line_of_graph, tree_lines}

-- an accepted deck's particles can be made a tree
CanBeMade-deck : (params : Params) (particles : List Particle) → AreAccepted params particles
    → CanBeMade (made_of (map (λ (p : Particle). p.x0) particles) (map (λ (p : Particle). p.h) particles) params.leaf)
CanBeMade-deck params particles accepted =
    let range = accepted.in_range in
    let points = length-map particles (λ (p : Particle). p.x0) in
    let lengths = length-map particles (λ (p : Particle). p.h) in
    record {
      some = omega (arith, range.some);
      not_too_many = omega (arith, range.not_too_many);
      one_length_each = lengths ∙ sym points;
      places = λ k low.
          let below : k < length particles = omega arith in
          subst IsPlace (sym (get_or-map (λ (p : Particle). p.x0) particles k no_particle [] below)) (range.bodies k no_particle below).place;
      lengths = λ k d low.
          let below : k < length particles = omega arith in
          subst IsLength (sym (get_or-map (λ (p : Particle). p.h) particles k no_particle d below)) (range.bodies k no_particle below).h;
      leaf_low = range.params_in_range.leaf_low;
      leaf_high = range.params_in_range.leaf_high;
    }

-- the same for lists of their places and lengths
pub CanBeMade-accepted : (params : Params) (particles : List Particle) (points : List (List ℕ)) (lengths : List ℕ) → AreAccepted params particles
    → points ≡ map (λ (p : Particle). p.x0) particles → lengths ≡ map (λ (p : Particle). p.h) particles → CanBeMade (made_of points lengths params.leaf)
CanBeMade-accepted params particles points lengths accepted points_are lengths_are =
    subst (λ hs. CanBeMade (made_of points hs params.leaf)) (sym lengths_are)
    (subst (λ ps. CanBeMade (made_of ps (map (λ (p : Particle). p.h) particles) params.leaf)) (sym points_are) (CanBeMade-deck params particles accepted))

-- which is the deck's tree
pub made_of-deck : (deck : Deck) (points : List (List ℕ)) (lengths : List ℕ)
    → points ≡ map (λ (p : Particle). p.x0) deck.particles → lengths ≡ map (λ (p : Particle). p.h) deck.particles → made_of points lengths deck.params.leaf ≡ tree_of deck
made_of-deck deck points lengths points_are lengths_are =
    ap (λ ps. made_of ps lengths deck.params.leaf) points_are ∙ ap (λ hs. made_of (map (λ (p : Particle). p.x0) deck.particles) hs deck.params.leaf) lengths_are

-- the lines of the deck's tree and graph
pub lines_of_parts : (deck : Deck) (tree : Made) (graph : Plan) (text : List ℕ) → tree ≡ tree_of deck → graph ≡ graph_of_deck deck
    → text ≡ line_of_tree (length tree.points) tree ++ line_of_graph graph → text ≡ tree_lines deck
lines_of_parts deck tree graph text tree_is graph_is text_is =
    let count : length tree.points ≡ length deck.particles =
    ap (λ (m : Made). length m.points) tree_is ∙ length-map deck.particles (λ (p : Particle). p.x0) in
    text_is ∙ ap (λ n. line_of_tree n tree ++ line_of_graph graph) count
    ∙ ap (λ m. line_of_tree (length deck.particles) m ++ line_of_graph graph) tree_is
    ∙ ap (λ g. line_of_tree (length deck.particles) (tree_of deck) ++ line_of_graph g) graph_is
