use Rattle.std.proofs.Common.{sym, subst, ap, ◌∙◌, refl, length, arith}
use Rattle.std.proofs.lemmas.List.{length_push}
use Rattle.qs_worker.specs.inner.Leaves.{AreFetched}
use Rattle.qs_worker.proofs.Fetching.{can_still, none_fetched, one_more}
use Rattle.qs_worker.proofs.leaves.fetch_leaves.Goals as goal

pub loop-leaf-init : goal.loop-leaf-init
loop-leaf-init g c =
    let none = ap length c.requires.empty in (
      c.requires.seat,
      subst (AreFetched _ _ _ _ _ _) (sym c.requires.empty) (none_fetched _ _ _ _ c.args.seat.now.view),
      (omega (arith, none)),
      c.requires.rises,
      refl,
    )

pub fetch-requires-clause-can : goal.fetch-requires-clause-can
fetch-requires-clause-can g c =
    let v = c.loop-leaf.invariant in
    let few = v.2 in
    can_still _ _ _ _ _ _ _ v.1 c.loop-leaf.leaf (λ l m. omega (arith, few, m)) (c.requires.can c.loop-leaf.leaf c.loop-leaf.auto.leaf c.loop-leaf-test.true)

pub loop-leaf-preserved : goal.loop-leaf-preserved
loop-leaf-preserved g c =
    let v = c.loop-leaf.invariant in
    let few = v.2 in
    let more = c.loop-leaf-test.true in
    let long = ap length c.push_reserved.ensures.items ∙ length_push _ _ in (
      c.fetch.ensures.seat,
      one_more _ _ _ _ _ _ _ v.1 _ c.loop-leaf.leaf (sym few) c.fetch.ensures.fetched _ _ c.fetch.ensures.view c.push_reserved.ensures.items,
      omega (arith, few, long),
      omega (arith, more),
      c.push_reserved.ensures.capacity ∙ v.4,
    )
