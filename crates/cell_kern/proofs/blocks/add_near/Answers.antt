use Rattle.cell_kern.specs.inner.Taking.{rows_in}
use Rattle.cell_kern.proofs.Apart.{blocks_far, taken_apart}
use Rattle.cell_kern.proofs.blocks.add_near.Goals as goal

pub returns-else-not-is_apart-clause-first : goal.returns-else-not-is_apart-clause-first
returns-else-not-is_apart-clause-first g c =
    let first = c.args.first.now in
    let second = c.args.second.now in
    let all = blocks_far g.S.BlockSums.sums 2 first second c.requires.first c.requires.second (c.is_apart.ensures.beyond c.if-not-is_apart.false) in
    taken_apart g.S.BlockSums.sums 2 first (rows_in second) c.requires.first (λ j d inside k e low. (all j d inside k e low).own)

pub returns-else-not-is_apart-clause-second : goal.returns-else-not-is_apart-clause-second
returns-else-not-is_apart-clause-second g c =
    let first = c.args.first.now in
    let second = c.args.second.now in
    let all = blocks_far g.S.BlockSums.sums 2 first second c.requires.first c.requires.second (c.is_apart.ensures.beyond c.if-not-is_apart.false) in
    taken_apart g.S.BlockSums.sums 2 second (rows_in first) c.requires.second (λ k e low j d inside. (all j d inside k e low).others)
