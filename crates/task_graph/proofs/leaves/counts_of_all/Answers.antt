use Rattle.std.proofs.Common.{◌+◌, ap, arith}
use Rattle.std.proofs.lemmas.Iterator.{items_from_collect, YieldsList-from_range}
use Rattle.std.proofs.lemmas.Result.{IfOk-weaker}
use Rattle.cell_tree.specs.Tree.{leaf_count}
use Rattle.task_graph.proofs.CountedLeaves.{AreCountsOf-all}
use Rattle.task_graph.proofs.leaves.counts_of_all.Goals as goal

pub returns : goal.returns
returns c =
    let n = leaf_count c.args.tree.now + 1 in
    IfOk-weaker c.collect.result _ _ (λ v e. AreCountsOf-all c.args.tree.now v.items e)
    (items_from_collect c.collect.result c.collect.ensures.ran (YieldsList-from_range 0 n n (ap (λ k. record { start = 0; end = k + 1 }) c.leaves.ensures.value) (omega arith)))
