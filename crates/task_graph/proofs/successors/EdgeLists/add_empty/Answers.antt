use Rattle.std.proofs.Common.{◌≡◌, ◌++◌, ◌∷◌, [], length, sym, ap, ◌∙◌, arith}
use Rattle.task_graph.proofs.Adding.{AddsLists-empty}
use Rattle.task_graph.proofs.successors.EdgeLists.add_empty.Goals as goal

pub loop-list-preserved : goal.loop-list-preserved
loop-list-preserved c =
    let stay : c.end_list.new.self.ends.items ≡ c.loop-list.self.ends.items = ap (λ v. v.items) c.end_list.ensures.ends in
    AddsLists-empty _ _ c.loop-list.self.starts.items _ c.loop-list.self.ends.items _ c.loop-list._list c.requires.starts (omega arith) c.loop-list.invariant stay
    (c.in_ok-end_list.ensures.starts ∙ ap (λ ks. c.loop-list.self.starts.items ++ length ks ∷ []) (sym stay))
