use Rattle.std.specs.List.{All}
use Rattle.std.specs.List.Sorted.{IsStrictlyIncreasing}
use Rattle.std.proofs.Common.{◌≡◌, ℕ, ◌<◌, length, sym, ap, ◌∙◌, subst}
use Rattle.cell_tree.specs.Tree.{cell_at, leaf_count, IsLeafCell}
use Rattle.cell_tree.proofs.Bounds.{members_rise}
use Rattle.cell_tree.proofs.TreeLists.{one_cell, members_are_points, leaf_read}
use Rattle.cell_tree.proofs.tree.Tree.members.Goals as goal

pub members-requires-clause-within : goal.members-requires-clause-within
members-requires-clause-within c =
    (leaf_read c.self.inside.cells _ _ _ c.self.invariant c.args.leaf (subst (λ m. c.args.leaf < leaf_count m) (sym c.self.view_is) c.requires) c.index-leaf.result.now c.index-leaf.ensures).cell.within

pub members-requires-clause-leaf : goal.members-requires-clause-leaf
members-requires-clause-leaf c =
    (leaf_read c.self.inside.cells _ _ _ c.self.invariant c.args.leaf (subst (λ m. c.args.leaf < leaf_count m) (sym c.self.view_is) c.requires) c.index-leaf.result.now c.index-leaf.ensures).cell.stands

pub members-requires-clause-start : goal.members-requires-clause-start
members-requires-clause-start c =
    (leaf_read c.self.inside.cells _ _ _ c.self.invariant c.args.leaf (subst (λ m. c.args.leaf < leaf_count m) (sym c.self.view_is) c.requires) c.index-leaf.result.now c.index-leaf.ensures).start

pub returns-clause-value : goal.returns-clause-value
returns-clause-value c =
    let w = (leaf_read c.self.inside.cells _ _ _ c.self.invariant c.args.leaf (subst (λ m. c.args.leaf < leaf_count m) (sym c.self.view_is) c.requires) c.index-leaf.result.now c.index-leaf.ensures) in
    subst (λ m. (cell : ℕ) → IsLeafCell m c.args.leaf cell → c.members.result.now ≡ (cell_at m cell).members) c.self.view_is
    (λ cell h. c.members.ensures ∙ ap (λ k. (cell_at c.self.inside.cells k).members) (one_cell c.self.inside.cells c.args.leaf _ cell w.cell h))

pub returns-clause-points : goal.returns-clause-points
returns-clause-points c =
    let w = (leaf_read c.self.inside.cells _ _ _ c.self.invariant c.args.leaf (subst (λ m. c.args.leaf < leaf_count m) (sym c.self.view_is) c.requires) c.index-leaf.result.now c.index-leaf.ensures) in
    subst (λ m. All (λ index. index < length m.points) c.members.result.now) c.self.view_is
    (members_are_points c.self.inside.cells c.self.invariant.can c.index-leaf.result.now.cell w.cell.within c.members.result.now c.members.ensures)

pub returns-clause-rising : goal.returns-clause-rising
returns-clause-rising c =
    let w = (leaf_read c.self.inside.cells _ _ _ c.self.invariant c.args.leaf (subst (λ m. c.args.leaf < leaf_count m) (sym c.self.view_is) c.requires) c.index-leaf.result.now c.index-leaf.ensures) in
    subst IsStrictlyIncreasing (sym c.members.ensures) (members_rise c.self.inside.cells c.index-leaf.result.now.cell w.cell.within)
