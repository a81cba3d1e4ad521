use Rattle.std.proofs.Common.{◌++◌, ap, ◌∙◌, append_assoc}
use Rattle.std.proofs.lemmas.Result.{on_ok_weaker}
use Rattle.task_graph.specs.inner.Joined.{counted_between}
use Rattle.task_graph.proofs.DueCounts.{counted_below_one, counted_below_two, counted_below_turned}
use Rattle.task_graph.proofs.successors.push_span.Goals as goal

pub returns-in_default : goal.returns-in_default
returns-in_default c = λ due are.
    on_ok_weaker c.push_below.result (λ e. e ∙ ap (λ ks. c.args.ends.now.items ++ ks) (counted_below_one c.args.tree.now due c.args.due_before.now are c.args.span c.args.first _ _ c.in_default.is c.leaves_below-below.ensures.below)) c.push_below.ensures

pub returns-then-below-other : goal.returns-then-below-other
returns-then-below-other c = λ due are.
    let first = counted_between c.args.due_before.now c.args.first c.leaves_below-below.result.0 c.leaves_below-below.result.1 in
    let second = counted_between c.args.due_before.now c.args.first c.leaves_below-other.result.0 c.leaves_below-other.result.1 in
    on_ok_weaker c.push_below-then-below-other-2.result
    (λ e. e ∙ ap (λ ks. ks ++ second) c.in_ok-push_below.ensures ∙ append_assoc c.args.ends.now.items first second
    ∙ ap (λ ks. c.args.ends.now.items ++ ks) (counted_below_two c.args.tree.now due c.args.due_before.now are c.args.span c.in-Some.second c.args.first _ _ _ _ c.requires.span c.in-Some.is c.leaves_below-below.ensures.below c.leaves_below-other.ensures.below c.if-below-other.true))
    c.push_below-then-below-other-2.ensures

pub returns : goal.returns
returns c = λ due are.
    let first = counted_between c.args.due_before.now c.args.first c.leaves_below-below.result.0 c.leaves_below-below.result.1 in
    let second = counted_between c.args.due_before.now c.args.first c.leaves_below-other.result.0 c.leaves_below-other.result.1 in
    on_ok_weaker c.push_below-3.result
    (λ e. e ∙ ap (λ ks. ks ++ first) c.in_ok-push_below-2.ensures ∙ append_assoc c.args.ends.now.items second first
    ∙ ap (λ ks. c.args.ends.now.items ++ ks) (counted_below_turned c.args.tree.now due c.args.due_before.now are c.args.span c.in-Some.second c.args.first _ _ _ _ c.requires.span c.in-Some.is c.leaves_below-below.ensures.below c.leaves_below-other.ensures.below c.if-below-other.false))
    c.push_below-3.ensures
