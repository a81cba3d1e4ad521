use Rattle.std.proofs.Common.{◌+◌, ◌<◌, ℕ, [], ◌∷◌, ◌++◌, length, map, take, get_or, sym, ap, ◌∙◌, append_assoc, arith}
use Rattle.std.proofs.lemmas.List.{map_more}
use Rattle.task_graph.proofs.successors.push_spans.Goals as goal

pub loop-span-preserved : goal.loop-span-preserved
loop-span-preserved c =
    let counted = λ (span : ℕ). c.args.first + span in
    let olds = c.args.ends.now.items in
    let spans = c.args.spans.now in
    let i = c.loop-span.span-index in
    let l : i < length spans = omega arith in
    c.in_ok-push.ensures.items ∙ ap (λ ends. ends ++ counted (get_or spans i 0) ∷ []) c.loop-span.invariant
    ∙ append_assoc olds (map counted (take i spans)) (counted (get_or spans i 0) ∷ []) ∙ ap (λ numbers. olds ++ numbers) (sym (map_more counted spans i 0 l))
