use Rattle.std.proofs.Common.{◌∙◌, refl, arith}
use Rattle.qs_table.proofs.Drained.{one_longer}
use Rattle.qs_table.proofs.Finishes.{may_release, releases_next, releasing_all, releasing_more, releasing_none, some_long}
use Rattle.qs_table.proofs.table.ResTable.finish.Goals as goal

pub loop-k-init : goal.loop-k-init
loop-k-init g c = (
  c.requires.sits,
  releasing_none _ c.requires.runs.0 _ _ c.requires.runs.1 c.requires.some,
  omega arith,
  refl,
  refl,
  omega arith,
  λ t more. absurd (omega arith),
)

pub release_next-seen-requires-clause-can : goal.release_next-seen-requires-clause-can
release_next-seen-requires-clause-can g c = may_release _ _ _ _ _ _ c.loop-k.invariant.1 c.loop-k-test.true

pub release_next-seen-requires-clause-next : goal.release_next-seen-requires-clause-next
release_next-seen-requires-clause-next g c = releases_next _ _ _ _ _ _ c.loop-k.invariant.1 c.loop-k-test.true

pub release_next-seen-requires-clause-within : goal.release_next-seen-requires-clause-within
release_next-seen-requires-clause-within g c = c.requires.within c.loop-k.k 0 c.loop-k-test.true

pub push_freed-requires : goal.push_freed-requires
push_freed-requires g c =
    let v = c.loop-k.invariant in
    let kept = v.4 in
    let few = v.5 in
    let room = c.requires.room in
    let more = c.loop-k-test.true in
    omega (arith, kept, few, room, more)

pub loop-k-preserved : goal.loop-k-preserved
loop-k-preserved g c =
    let v = c.loop-k.invariant in (
      c.release_next-seen.ensures.sits,
      releasing_more _ _ _ _ _ _ v.1 c.loop-k-test.true (g.W.Work.shape c.args.self.now.plan) _ _ c.release_next-seen.ensures.knows _ c.push_freed.ensures.pushed,
      (let more = c.loop-k-test.true in omega arith),
      c.release_next-seen.ensures.slots ∙ v.3,
      c.push_freed.ensures.kept ∙ v.4,
      (let few = v.5 in let one = one_longer _ _ _ c.push_freed.ensures.pushed in omega (arith, few, one)),
      λ t more. c.release_next-seen.ensures.once t,
    )

pub returns-clause-over : goal.returns-clause-over
returns-clause-over g c =
    let v = c.loop-k.invariant in
    releasing_all _ c.loop-k.k _ _ _ _ v.1 (let few = v.2 in let last = c.loop-k-test.false in omega arith)

pub returns-clause-once : goal.returns-clause-once
returns-clause-once g c t = c.loop-k.invariant.6 t (let some = some_long _ c.requires.some in let few = c.loop-k.invariant.2 in let last = c.loop-k-test.false in omega (arith, some, few, last))
