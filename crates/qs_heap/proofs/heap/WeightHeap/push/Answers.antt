use Rattle.std.proofs.Common.{ap, arith}
use Rattle.qs_heap.specs.Entries.{entry_of}
use Rattle.qs_heap.specs.Heap.{Heap}
use Rattle.qs_heap.proofs.Edits.{pushed, pushed_moves}
use Rattle.qs_heap.proofs.heap.WeightHeap.push.Goals as goal

pub returns-clause-added : goal.returns-clause-added
returns-clause-added c =
    let is = ap (λ (h : Heap). h.entries) c.self.view_is in
    let put = c.push_reserved.ensures in
    pushed (entry_of c.args.weight c.args.task) _ _ _ _ c.move_up.new.entries _ is put.items c.deref_mut.ensures.value (omega arith) c.move_up.ensures.same

pub returns-clause-moved : goal.returns-clause-moved
returns-clause-moved c =
    let is = ap (λ (h : Heap). h.entries) c.self.view_is in
    let put = c.push_reserved.ensures in
    pushed_moves (entry_of c.args.weight c.args.task) _ _ _ _ c.move_up.new.entries c.len-last.result _ is (omega arith) put.items c.deref_mut.ensures.value (omega arith) c.move_up.ensures.same c.move_up.ensures.moved
