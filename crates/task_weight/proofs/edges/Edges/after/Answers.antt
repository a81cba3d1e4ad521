use Rattle.std.proofs.Common.{◌+◌, ◌<◌, ◌≤◌, length, ap, ◌∙◌, arith, rules}
use Rattle.std.specs.List.{slice_range}
use Rattle.std.proofs.lemmas.List.{get_or_read}
use Rattle.task_weight.proofs.Starts.{after_of-read, length-edges_of, reads_in_order}
use Rattle.task_weight.proofs.edges.Edges.after.Goals as goal

pub index-start-requires : goal.index-start-requires
index-start-requires c =
    let inside = c.self.inside in
    omega (arith, inside.starts.ok.0, length-edges_of inside.starts.items inside.ends.items c.self.invariant, ap length c.self.view_is)

pub index-end-requires : goal.index-end-requires
index-end-requires c =
    let inside = c.self.inside in
    omega (arith, inside.starts.ok.0, length-edges_of inside.starts.items inside.ends.items c.self.invariant, ap length c.self.view_is)

-- the two starts that were read are in order, and within the ends
in_order : (c : goal.After-deref) → (c.index-start.result.now ≤ c.index-end.result.now) × (c.index-end.result.now ≤ length c.deref.result.now)
in_order c =
    let starts = c.self.inside.starts.items in
    let ends = c.self.inside.ends.items in
    let count = length-edges_of starts ends c.self.invariant in
    let same = ap length c.self.view_is in
    let o = reads_in_order starts ends c.self.invariant _ _ c.index-start.result.now c.index-end.result.now (omega arith) (omega arith) c.index-start.ensures c.index-end.ensures in
    (o.0, omega (arith, o.1, ap length c.deref.ensures.value))

pub offset_bounds-deref-start : goal.offset_bounds-deref-start
offset_bounds-deref-start c =
    let o = in_order c in
    record { fits = omega (arith, o.0, o.1, c.deref.type_inv) }

pub slice_bounds-result-count : goal.slice_bounds-result-count
slice_bounds-result-count c = (in_order c).0

pub slice_bounds-result-start : goal.slice_bounds-result-start
slice_bounds-result-start c =
    let o = in_order c in
    let l : c.index-start.result.now ≤ length c.deref.result.now = omega (arith, o.0, o.1) in
    search rules

pub slice_bounds-result-end : goal.slice_bounds-result-end
slice_bounds-result-end c =
    let l : c.index-end.result.now ≤ length c.deref.result.now = (in_order c).1 in
    search rules

pub returns : goal.returns
returns c =
    let starts = c.self.inside.starts.items in
    let ends = c.self.inside.ends.items in
    let count = length-edges_of starts ends c.self.invariant in
    let next : c.args.task + 1 < length starts = omega (arith, ap length c.self.view_is) in
    ap (λ read. slice_range read c.index-start.result.now c.index-end.result.now) c.deref.ensures.value
    ∙ after_of-read starts ends c.args.self.now c.args.task c.index-start.result.now c.index-end.result.now c.self.invariant c.self.view_is c.requires
    (get_or_read starts c.args.task _ (omega arith) c.index-start.ensures 0) (get_or_read starts (c.args.task + 1) _ next c.index-end.ensures 0)
