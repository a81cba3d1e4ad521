use Rattle.std.proofs.Common.{◌≡◌, ◌++◌, ◌∷◌, [], length, get_or, sym, ap, ◌∙◌, arith}
use Rattle.std.proofs.lemmas.List.{get_or_read, length_push}
use Rattle.task_graph.specs.inner.Joined.{counted_from}
use Rattle.task_graph.proofs.Adding.{AddsLists-more}
use Rattle.task_graph.proofs.successors.EdgeLists.add_leaves.Goals as goal

pub loop-spans-preserved : goal.loop-spans-preserved
loop-spans-preserved c =
    let spans = get_or c.args.above.now c.loop-spans.spans-index [] in
    let read : c.as_slice.result.now ≡ spans = c.as_slice.ensures ∙ get_or_read c.args.above.now c.loop-spans.spans-index c.spans-item.result (omega arith) c.spans-item.is [] in
    let stay : c.end_list.new.self.ends.items ≡ c.push_spans.new.ends.items = ap (λ v. v.items) c.end_list.ensures.ends in
    let ends : c.end_list.new.self.ends.items ≡ c.loop-spans.self.ends.items ++ counted_from c.args.first spans =
    stay ∙ c.in_ok-push_spans.ensures ∙ ap (λ ks. c.loop-spans.self.ends.items ++ counted_from c.args.first ks) read in
    let starts : c.end_list.new.self.starts.items ≡ c.loop-spans.self.starts.items ++ length c.end_list.new.self.ends.items ∷ [] =
    c.in_ok-end_list.ensures.starts ∙ ap (λ ks. c.loop-spans.self.starts.items ++ length ks ∷ []) (sym stay) in
    let pushed = length_push c.loop-spans.self.starts.items (length c.end_list.new.self.ends.items) in
    record {
      count = omega (arith, ap length starts, pushed);
      lists = AddsLists-more (counted_from c.args.first) c.args.above.now c.loop-spans.spans-index [] _ _ _ _ _ _ c.requires.starts c.requires.few (omega arith) c.loop-spans.invariant.lists ends starts;
    }
