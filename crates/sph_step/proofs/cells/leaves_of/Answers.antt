use Rattle.std.proofs.Common.{ℕ, ◌<◌, ◌≤◌, List, [], ◌∷◌, ◌++◌, length, map, get_or, ap, ◌∙◌, arith}
use Rattle.std.proofs.lemmas.List.{take_all}
use Rattle.cell_tree.specs.Spans.{leaf_cells}
use Rattle.cell_tree.specs.Tree.{cell_at}
use Rattle.cell_tree.proofs.LeafCells.{IsLeafCell-at, length-leaf_cells}
use Rattle.sph_step.proofs.Filled.{map_next}
use Rattle.sph_step.proofs.cells.leaves_of.Goals as goal

pub loop-leaf-init : goal.loop-leaf-init
loop-leaf-init c = c.in_ok-leaves.ensures.items

pub loop-leaf-preserved : goal.loop-leaf-preserved
loop-leaf-preserved c =
    let tree = c.args.tree.now in
    let leaf = c.loop-leaf.leaf in
    let cells = leaf_cells tree in
    let low : leaf < length cells = omega (arith, length-leaf_cells tree, c.leaves-leaf-end.ensures.value) in
    let at = c.from_vec.ensures ∙ c.in_ok-members.ensures.items ∙ c.members.ensures.value (get_or cells leaf 0) (IsLeafCell-at tree leaf 0 (omega (arith, c.leaves-leaf-end.ensures.value))) in
    c.in_ok-push.ensures.items ∙ ap (λ (ls : List (List ℕ)). ls ++ c.from_vec.result ∷ []) c.loop-leaf.invariant
    ∙ map_next (λ cell. (cell_at tree cell).members) cells leaf 0 c.from_vec.result low at

pub returns : goal.returns
returns c =
    let tree = c.args.tree.now in
    let cells = leaf_cells tree in
    let all : length cells ≤ c.loop-leaf.leaf = omega (arith, length-leaf_cells tree, c.leaves-leaf-end.ensures.value) in
    c.from_vec-2.ensures ∙ c.loop-leaf.invariant ∙ ap (map (λ cell. (cell_at tree cell).members)) (take_all c.loop-leaf.leaf cells all)
