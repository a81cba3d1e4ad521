use Rattle.std.proofs.Common.{◌<◌, List, [], length, get_or, take, flat_map, refl, subst, ap, arith}
use Rattle.std.proofs.lemmas.List.{get_or_default, take_all}
use Rattle.std.proofs.lemmas.List.Elements.{All-nil}
use Rattle.cell_block.specs.declared.rows.BlockRows.{BlockRows}
use Rattle.cell_kern.specs.declared.members.Member.{Member}
use Rattle.cell_kern.specs.inner.Gathered.{IsSound}
use Rattle.cell_kern.specs.inner.Taking.{IsGiven, rows_in}
use Rattle.cell_kern.proofs.Range.{all_taken, more_taken, next_taken, none_taken, part_few, part_sound, part_taken, rows_after, rows_sound, same_rows_all, taken_can_all}
use Rattle.cell_kern.proofs.blocks.add_between.Goals as goal

pub loop-one-init : goal.loop-one-init
loop-one-init g c = record {
  first = none_taken g.S.BlockSums.sums 0 (flat_map rows_in c.args.second.now) c.args.first.now c.requires.first;
  second = none_taken g.S.BlockSums.sums 0 (flat_map rows_in c.args.first.now) c.args.second.now c.requires.second;
}

pub add_with-requires-clause-one : goal.add_with-requires-clause-one
add_with-requires-clause-one g c =
    rw c.deref_mut.ensures.value
    (taken_can_all g.S.BlockSums.sums 0 (flat_map rows_in c.args.second.now) [] c.loop-one.one-index c.args.first.now c.loop-one.first c.requires.first
    (rows_sound g.S.BlockSums.sums 0 c.args.second.now c.requires.second) c.requires.second_few (All-nil IsSound) (omega arith) c.loop-one.invariant.first
    c.loop-one.one-index c.one-item.result (omega arith))

pub add_with-requires-clause-others : goal.add_with-requires-clause-others
add_with-requires-clause-others g c =
    let first = c.args.first.now in
    taken_can_all g.S.BlockSums.sums 0 (flat_map rows_in first) (flat_map rows_in (take c.loop-one.one-index first)) 0 c.args.second.now c.loop-one.second c.requires.second
    (rows_sound g.S.BlockSums.sums 0 first c.requires.first) c.requires.first_few (part_sound g.S.BlockSums.sums 0 first c.loop-one.one-index c.requires.first) (part_few first c.loop-one.one-index c.requires.first_few) c.loop-one.invariant.second

pub add_with-requires-clause-few : goal.add_with-requires-clause-few
add_with-requires-clause-few g c =
    let first = c.args.first.now in
    omega (arith, ap length (rows_after g.S.BlockSums.sums (flat_map rows_in first) (flat_map rows_in (take c.loop-one.one-index first)) 0 c.args.second.now c.loop-one.second c.loop-one.invariant.second), c.requires.second_few)

pub loop-one-preserved : goal.loop-one-preserved
loop-one-preserved g c =
    let sums = g.S.BlockSums.sums in
    let first = c.args.first.now in
    let second = c.args.second.now in
    let now = c.loop-one.first in
    let i = c.loop-one.one-index in
    let r = c.one-item.result in
    let low : i < length first = c.loop-one-test.true in
    let whole = flat_map rows_in second in
    let part = flat_map rows_in (take i first) in
    let same = rows_after sums (flat_map rows_in first) part 0 second c.loop-one.second c.loop-one.invariant.second in
    record {
      first = next_taken sums whole i first now _ c.add_with.new.one low c.loop-one.invariant.first
          (λ d. subst (λ (b : BlockRows). IsGiven sums b whole c.add_with.new.one) (get_or_default now i r d (omega arith)) (subst (λ (xs : List Member). IsGiven sums (get_or now i r) xs c.add_with.new.one) same (rw c.deref_mut.ensures.value at c.add_with.ensures.one)))
          refl;
      second = more_taken sums (flat_map rows_in first) first i r (get_or now i r) second c.loop-one.second c.add_with.new.others low (same_rows_all sums whole [] i first now i r c.loop-one.invariant.first low)
          c.loop-one.invariant.second (rw c.deref_mut.ensures.value at c.add_with.ensures.others);
    }

pub returns-clause-first : goal.returns-clause-first
returns-clause-first g c =
    all_taken g.S.BlockSums.sums (flat_map rows_in c.args.second.now) [] c.loop-one.one-index c.args.first.now c.loop-one.first (omega arith) c.loop-one.invariant.first

pub returns-clause-second : goal.returns-clause-second
returns-clause-second g c =
    let first = c.args.first.now in
    part_taken g.S.BlockSums.sums (flat_map rows_in first) (flat_map rows_in (take c.loop-one.one-index first)) c.args.second.now c.loop-one.second (ap (flat_map rows_in) (take_all c.loop-one.one-index first (omega arith))) c.loop-one.invariant.second
