use Rattle.std.proofs.Common.{◌≡◌, ◌+◌, ◌<◌, true, false, if◌then◌else◌, [], ◌∷◌, length, get_or, sym, ap, ◌∙◌, arith}
use Rattle.std.specs.List.{list_any}
use Rattle.std.proofs.lemmas.List.{length_push, get_or_append_left, get_or_push}
use Rattle.cell_tree.specs.Tree.{leaf_count}
use Rattle.cell_tree.specs.Due.{has_due}
use Rattle.cell_tree.proofs.DueLeaves.{counts_more}
use Rattle.cell_tree.proofs.LeafCells.{leaf_named}
use Rattle.cell_tree.proofs.due.due_counts.Goals as goal
use Rattle.cell_tree.proofs.due.due_counts.Goals.{then-any_due, else-any_due}

pub loop-leaf-preserved : goal.loop-leaf-preserved
loop-leaf-preserved c =
    let made = c.args.tree.now in
    let due = c.args.due.now in
    let low : c.loop-leaf.leaf < leaf_count made = omega (arith, c.leaves-leaf-end.ensures.value) in
    let w = leaf_named made c.loop-leaf.leaf low in
    let flag : c.any_due.result ≡ has_due made due w.0 = c.any_due.ensures ∙ ap (list_any (λ i. get_or due i false)) (c.members.ensures.value w.0 w.1) in
    let step : c.if-any_due.count ≡ c.loop-leaf.count + (if has_due made due w.0 then 1 else 0) =
    elim c.if-any_due.branch [
      | then-any_due v ↦ let t : has_due made due w.0 ≡ true = sym flag ∙ v.if-any_due.true in v.count-is ∙ ap (λ b. c.loop-leaf.count + (if b then 1 else 0)) (sym t)
      | else-any_due v ↦ let f : has_due made due w.0 ≡ false = sym flag ∙ v.if-any_due.false in let e = v.count-is in let z : c.if-any_due.count ≡ c.loop-leaf.count + 0 = omega arith in z ∙ ap (λ b. c.loop-leaf.count + (if b then 1 else 0)) (sym f)
    ] in
    let inv = c.loop-leaf.invariant in
    let items = c.in_ok-push-2.ensures.items in
    record {
      few = elim c.if-any_due.branch [ then-any_due v ↦ let e = v.count-is in omega arith | else-any_due v ↦ let e = v.count-is in omega arith ];
      long = ap length items ∙ length_push c.loop-leaf.before.items c.if-any_due.count ∙ ap (λ n. n + 1) inv.long;
      first = ap (λ xs. get_or xs 0 0) items ∙ get_or_append_left c.loop-leaf.before.items (c.if-any_due.count ∷ []) 0 0 (omega (arith, inv.long)) ∙ inv.first;
      last = ap (λ xs. get_or xs (c.loop-leaf.leaf + 1) 0) items ∙ get_or_push c.loop-leaf.before.items c.if-any_due.count 0 (c.loop-leaf.leaf + 1) inv.long;
      each = counts_more made due c.loop-leaf.before.items c.push-in-loop-leaf.new.self.items c.loop-leaf.leaf c.loop-leaf.count c.if-any_due.count inv.long inv.last inv.each w.0 w.1 step items;
    }
