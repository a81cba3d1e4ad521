use Rattle.std.proofs.Common.{◌≡◌, ℕ, ◌+◌, ◌<◌, List, [], ◌∷◌, ◌++◌, length, map, take, get_or, sym, ap, ◌∙◌, append_assoc, arith}
use Rattle.std.proofs.lemmas.List.{map_more, map-append}
use Rattle.std.proofs.lemmas.List.Elements.{Contains-get_or}
use Rattle.cell_tree.specs.Spans.{leaf_cells}
use Rattle.cell_tree.proofs.LeafCells.{get_or-leaf_cells}
use Rattle.task_graph.specs.declared.task.Task.{Task}
use Rattle.task_graph.specs.Tasks.{cell_task}
use Rattle.task_graph.proofs.task.push_leaf_tasks.Goals as goal

pub cell_of-requires : goal.cell_of-requires
cell_of-requires c =
    let l : c.loop-leaf.leaf-index < length c.args.leaves.now = omega arith in
    c.requires.below _ (Contains-get_or c.args.leaves.now c.loop-leaf.leaf-index 0 l)

-- one more task, on the cell of one more leaf
task_more : {K : Type 0} (make : K → Task) (cell_of : ℕ → K) (leaves : List ℕ) (i : ℕ) (cell : K) (old tasks tasks' : List Task) → i < length leaves → cell ≡ cell_of (get_or leaves i 0)
    → tasks ≡ old ++ map make (map cell_of (take i leaves)) → tasks' ≡ tasks ++ make cell ∷ [] → tasks' ≡ old ++ map make (map cell_of (take (i + 1) leaves))
task_more make cell_of leaves i cell old tasks tasks' l at is is' =
    is' ∙ ap (λ ts. ts ++ make cell ∷ []) is ∙ append_assoc old _ _
    ∙ ap (λ k. old ++ (map make (map cell_of (take i leaves)) ++ make k ∷ [])) at
    ∙ ap (λ ts. old ++ ts) (sym (ap (map make) (map_more cell_of leaves i 0 l) ∙ map-append make (map cell_of (take i leaves)) (cell_of (get_or leaves i 0) ∷ [])))

pub loop-leaf-preserved : goal.loop-leaf-preserved
loop-leaf-preserved c =
    let leaves = c.args.leaves.now in
    let i = c.loop-leaf.leaf-index in
    let l : i < length leaves = omega arith in
    task_more (cell_task c.args.kind) (λ leaf. get_or (leaf_cells c.args.tree.now) leaf 0) leaves i c.cell_of.result c.args.tasks.now.items c.loop-leaf.tasks.items c.push.new.self.items l
    (sym (get_or-leaf_cells c.args.tree.now (get_or leaves i 0) c.cell_of.result 0 c.cell_of.ensures)) c.loop-leaf.invariant c.in_ok-push.ensures.items
