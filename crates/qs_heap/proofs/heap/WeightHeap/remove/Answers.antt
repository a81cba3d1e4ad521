use Rattle.std.proofs.Common.{ap, subst, sym, arith, List, length}
use Rattle.qs_heap.specs.declared.entry.Entry.{Entry}
use Rattle.qs_heap.specs.Entries.{entry_of}
use Rattle.qs_heap.specs.Heap.{Heap}
use Rattle.qs_heap.specs.inner.Sift.{IsHeapBesides}
use Rattle.qs_heap.proofs.Edits.{replaced, removed, removed_moved, removed_moves, removed_stays}
use Rattle.qs_heap.proofs.heap.WeightHeap.remove.Goals as goal

pub settle-requires-clause-others : goal.settle-requires-clause-others
settle-requires-clause-others c =
    let P : List Entry → Type 0 = λ ys. IsHeapBesides ys c.args.place in
    let left = c.swap_remove-removed.ensures in
    subst P (sym c.deref_mut.ensures.value) (replaced c.self.inside.entries.items _ c.args.place c.self.invariant.heap (omega arith) (omega arith) (λ k u inside. left.by_index.1 k (entry_of 0 0) u (omega arith)))

pub returns-then-place-left-clause-rest : goal.returns-then-place-left-clause-rest
returns-then-place-left-clause-rest c =
    let is = ap (λ (h : Heap). h.entries) c.self.view_is in
    let left = c.swap_remove-removed.ensures in
    removed_moved c.swap_remove-removed.result _ _ _ _ c.settle.new.entries c.args.place _ is (omega arith) left.value left.items c.deref_mut.ensures.value (omega arith) c.settle.ensures.same

pub returns-else-place-left-clause-rest : goal.returns-else-place-left-clause-rest
returns-else-place-left-clause-rest c =
    let is = ap (λ (h : Heap). h.entries) c.self.view_is in
    let left = c.swap_remove-removed.ensures in
    removed c.swap_remove-removed.result _ _ _ c.args.place is (omega (arith, ap length is)) left.value left.items

pub returns-then-place-left-clause-moved : goal.returns-then-place-left-clause-moved
returns-then-place-left-clause-moved c =
    let is = ap (λ (h : Heap). h.entries) c.self.view_is in
    let left = c.swap_remove-removed.ensures in
    removed_moves c.swap_remove-removed.result _ _ _ _ c.settle.new.entries c.args.place _ is (omega arith) left.items c.deref_mut.ensures.value (omega arith) c.settle.ensures.same c.settle.ensures.moved

pub returns-else-place-left-clause-moved : goal.returns-else-place-left-clause-moved
returns-else-place-left-clause-moved c =
    let is = ap (λ (h : Heap). h.entries) c.self.view_is in
    let left = c.swap_remove-removed.ensures in
    removed_stays c.swap_remove-removed.result _ _ _ c.args.place is (omega (arith, ap length is)) left.items
