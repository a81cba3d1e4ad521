use Rattle.std.proofs.Common.{ℕ, ◌<◌, ◌≤◌, ◌++◌, List, [], length, get_or, take, flat_map, refl, subst, sym, ap, ◌∙◌, arith}
use Rattle.std.proofs.lemmas.List.{get_or_default, take_all}
use Rattle.std.proofs.lemmas.List.Elements.{All-nil}
use Rattle.sph_num.specs.Ranges.{most_particles}
use Rattle.cell_block.specs.declared.rows.BlockRows.{BlockRows}
use Rattle.cell_kern.specs.declared.members.Member.{Member}
use Rattle.cell_kern.specs.inner.Gathered.{IsSound}
use Rattle.cell_kern.specs.inner.Taking.{CanTake, CanTakeAll, IsGiven, Sums, rows_in}
use Rattle.cell_kern.proofs.Range.{AreTaken, all_taken, next_taken, none_taken, part_few, part_sound, rows_more, same_rows_all, taken_can_all}
use Rattle.cell_kern.proofs.Taken.{length-rows_in, same_rows, taken_can, taken_more, taken_none}
use Rattle.cell_kern.proofs.blocks.add_with.Goals as goal

pub loop-i-init : goal.loop-i-init
loop-i-init g c = record {
  one = taken_none g.S.BlockSums.sums 1 c.args.one.now c.requires.one;
  others = none_taken g.S.BlockSums.sums 1 (rows_in c.args.one.now) c.args.others.now c.requires.others;
}

pub add_near-requires-clause-first : goal.add_near-requires-clause-first
add_near-requires-clause-first g c =
    let others = c.args.others.now in
    let i = c.loop-i.i in
    taken_can g.S.BlockSums.sums 1 c.args.one.now (flat_map rows_in (take i others)) c.loop-i.one c.requires.one (part_sound g.S.BlockSums.sums 1 others i c.requires.others) (part_few others i c.requires.few) c.loop-i.invariant.one

-- the others at the start of a turn
others_can : (sums : Sums) (one : BlockRows) (i : ℕ) (before now : List BlockRows) → CanTake sums 1 one → CanTakeAll sums 1 before → AreTaken sums (rows_in one) [] i before now → CanTakeAll sums 2 now
others_can sums one i before now can all so_far =
    let few : length (rows_in one) ≤ most_particles = omega (arith, length-rows_in sums 1 one can, can.few) in
    taken_can_all sums 1 (rows_in one) [] i before now all can.sound few (All-nil IsSound) (omega arith) so_far

pub add_near-requires-clause-second : goal.add_near-requires-clause-second
add_near-requires-clause-second g c =
    rw c.deref_mut-other.ensures.value (others_can g.S.BlockSums.sums c.args.one.now c.loop-i.i c.args.others.now c.loop-i.others c.requires.one c.requires.others c.loop-i.invariant.others c.loop-i.i c.index-others-i.result (omega arith))

pub loop-i-preserved : goal.loop-i-preserved
loop-i-preserved g c =
    let sums = g.S.BlockSums.sums in
    let olds = c.args.others.now in
    let now = c.loop-i.others in
    let one = c.args.one.now in
    let i = c.loop-i.i in
    let r = c.index-others-i.result in
    let low : i < length olds = c.loop-i-test.true in
    let part = flat_map rows_in (take i olds) in
    let total = ap (λ xs. part ++ xs) (same_rows_all sums (rows_in one) [] i olds now i r c.loop-i.invariant.others low) ∙ sym (rows_more olds i r low) in
    let back = same_rows sums one part c.loop-i.one c.loop-i.invariant.one in
    record {
      one = subst (λ (xs : List Member). IsGiven sums one xs c.add_near.new.first) total (taken_more sums one c.loop-i.one c.add_near.new.first part (rows_in (get_or now i r)) c.loop-i.invariant.one (rw c.deref_mut-other.ensures.value at c.add_near.ensures.first));
      others = next_taken sums (rows_in one) i olds now _ c.add_near.new.second low c.loop-i.invariant.others
          (λ d. subst (λ (b : BlockRows). IsGiven sums b (rows_in one) c.add_near.new.second) (get_or_default now i r d (omega arith)) (subst (λ (xs : List Member). IsGiven sums (get_or now i r) xs c.add_near.new.second) back (rw c.deref_mut-other.ensures.value at c.add_near.ensures.second)))
          refl;
    }

pub returns-clause-one : goal.returns-clause-one
returns-clause-one g c =
    let olds = c.args.others.now in
    subst (λ (bs : List BlockRows). IsGiven g.S.BlockSums.sums c.args.one.now (flat_map rows_in bs) c.loop-i.one) (take_all c.loop-i.i olds (omega arith)) c.loop-i.invariant.one

pub returns-clause-others : goal.returns-clause-others
returns-clause-others g c =
    all_taken g.S.BlockSums.sums (rows_in c.args.one.now) [] c.loop-i.i c.args.others.now c.loop-i.others (omega arith) c.loop-i.invariant.others
