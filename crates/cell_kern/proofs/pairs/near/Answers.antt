use Rattle.std.proofs.Common.{◌<◌, ◌≤◌, length, get_or, fold, sym, ap, ◌∙◌, arith}
use Rattle.std.proofs.lemmas.List.{take_all}
use Rattle.std.proofs.lemmas.Slice.{between_from_start}
use Rattle.sph_num.specs.Ranges.{most_particles}
use Rattle.cell_kern.specs.inner.Gathered.{list_of, no_member}
use Rattle.cell_kern.proofs.Apart.{row_far}
use Rattle.cell_kern.proofs.Lists.{length-list_of}
use Rattle.cell_kern.proofs.Passed.{fold_kept, passed_nothing}
use Rattle.cell_kern.proofs.pairs.near.Goals as goal

pub returns-else-not-is_apart-clause-own : goal.returns-else-not-is_apart-clause-own
returns-else-not-is_apart-clause-own g c =
    let one = c.args.one.now in
    let sum = c.args.sum.now in
    let list = list_of c.args.others.now in
    let all = row_far one c.args.others.now c.point.result c.args.extent.now c.requires.one c.requires.others c.point.ensures c.requires.extent (c.is_apart.ensures.beyond c.if-not-is_apart.false) in
    sym (fold_kept (g.P.Pairing.given one) sum list (λ k d inside. c.requires.laws.kept one (get_or list k d) sum (all k d inside).own (λ due. c.requires.laws.fewer 0 most_particles sum (omega arith) (c.requires.room due))))

pub returns-else-not-is_apart-clause-others : goal.returns-else-not-is_apart-clause-others
returns-else-not-is_apart-clause-others g c =
    let one = c.args.one.now in
    let sum = c.args.sum.now in
    let sums = c.args.sums.now in
    let list = list_of c.args.others.now in
    let all = row_far one c.args.others.now c.point.result c.args.extent.now c.requires.one c.requires.others c.point.ensures c.requires.extent (c.is_apart.ensures.beyond c.if-not-is_apart.false) in
    passed_nothing g.P.Pairing.given one list 0 sums sum
    (λ k low. let inside : k < length list = omega (arith, c.requires.count, length-list_of c.args.others.now c.requires.others) in
    c.requires.laws.kept (get_or list k no_member) one (get_or sums k sum) (all k no_member inside).others (λ due. c.requires.laws.fewer 0 1 (get_or sums k sum) (omega arith) (c.requires.rooms k sum inside due)))

pub returns-then-not-is_apart-clause-own : goal.returns-then-not-is_apart-clause-own
returns-then-not-is_apart-clause-own g c =
    let list = list_of c.args.others.now in
    let count = length c.args.sums.now in
    let whole : length list ≤ count = omega (arith, c.requires.count, length-list_of c.args.others.now c.requires.others) in
    c.row.ensures.own ∙ ap (fold (g.P.Pairing.given c.args.one.now) c.args.sum.now) (between_from_start list count ∙ take_all count list whole)
