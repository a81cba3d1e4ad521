use Rattle.std.proofs.Common.{◌≡◌, ◌+◌, ◌++◌, [], ◌∷◌, length, sym, ap, ◌∙◌, subst, arith}
use Rattle.lists.proofs.Elements.{written_back}
use Rattle.cell_tree.specs.inner.Parts.{KnowsParents, AreChildrenOf}
use Rattle.cell_tree.specs.Tree.{cells_of}
use Rattle.cell_tree.proofs.FoundChildren.{AreChildrenOf-more}
use Rattle.cell_tree.proofs.children.children_of.Goals as goal

pub loop-cell-preserved : goal.loop-cell-preserved
loop-cell-preserved c =
    let kept : length c.append_children.new.parents ≡ length c.loop-cell.parents.items = c.append_children.auto.parents ∙ ap length c.deref_mut.ensures.value in
    let back = written_back c.loop-cell.parents.len c.loop-cell.parents.items c.append_children.new.parents c.loop-cell.parents.ok.0 kept in
    let ends : c.len-in-loop-cell.result ≡ length c.append_children.new.numbers.items = c.len-in-loop-cell.ensures ∙ c.append_children.new.numbers.ok.0 in
    record {
      long = ap length back ∙ kept ∙ c.loop-cell.invariant.long;
      parents = subst (KnowsParents c.args.cells.now (c.loop-cell.cell + 1)) (sym back) c.in_ok-append_children.ensures.known;
      children = AreChildrenOf-more c.args.cells.now c.loop-cell.cell c.loop-cell.starts.items c.push-in-loop-cell.new.self.items c.loop-cell.numbers.items c.append_children.new.numbers.items
          c.loop-cell.invariant.children c.in_ok-append_children.ensures.added (c.in_ok-push-2.ensures.items ∙ ap (λ e. c.loop-cell.starts.items ++ e ∷ []) ends);
    }

pub returns-clause-children : goal.returns-clause-children
returns-clause-children c =
    let e : c.loop-cell.cell ≡ length (cells_of c.args.cells.now) = omega (arith, c.len-cell-end.ensures.value) in
    subst (λ n. AreChildrenOf c.args.cells.now n c.loop-cell.starts.items c.loop-cell.numbers.items) e c.loop-cell.invariant.children
