use Rattle.std.proofs.Common.{◌≡◌, ◌++◌, ◌∷◌, [], length, map, take, sym, ap, ◌∙◌, subst, None, arith}
use Rattle.std.proofs.lemmas.List.{length_push, take_all}
use Rattle.task_graph.specs.inner.Joined.{dues_below}
use Rattle.task_graph.specs.inner.Parts.{AddsLists}
use Rattle.task_graph.proofs.Adding.{AddsLists-more}
use Rattle.task_graph.proofs.successors.EdgeLists.add_spans.Goals as goal

pub loop-span-preserved : goal.loop-span-preserved
loop-span-preserved c =
    let stay : c.end_list.new.self.ends.items ≡ c.push_span.new.ends.items = ap (λ v. v.items) c.end_list.ensures.ends in
    let starts : c.end_list.new.self.starts.items ≡ c.loop-span.self.starts.items ++ length c.end_list.new.self.ends.items ∷ [] =
    c.in_ok-end_list.ensures.starts ∙ ap (λ ks. c.loop-span.self.starts.items ++ length ks ∷ []) (sym stay) in
    let pushed = length_push c.loop-span.self.starts.items (length c.end_list.new.self.ends.items) in
    record {
      count = omega (arith, ap length starts, pushed);
      lists = λ due are.
          AddsLists-more (dues_below c.args.tree.now due c.args.first) c.args.spans.now c.loop-span.span-index (record { first = 0; second = None }) _ _ _ _ _ _ c.requires.starts c.requires.few (omega arith)
          (c.loop-span.invariant.lists due are) (stay ∙ c.in_ok-push_span.ensures due are) starts;
    }

pub returns-clause-lists : goal.returns-clause-lists
returns-clause-lists c = λ due are.
    let all : take c.loop-span.span-index c.args.spans.now ≡ c.args.spans.now = take_all c.loop-span.span-index c.args.spans.now (omega arith) in
    subst (λ xs. AddsLists c.args.self.now.starts.items c.args.self.now.ends.items c.loop-span.self.starts.items c.loop-span.self.ends.items (map (dues_below c.args.tree.now due c.args.first) xs)) all
    (c.loop-span.invariant.lists due are)
