use Rattle.std.proofs.Common.{◌*◌, [], length, get_or, take, fold, subst, refl, sym, ap, ◌∙◌, arith}
use Rattle.std.proofs.lemmas.List.{length-take-le, take_all}
use Rattle.std.proofs.lemmas.List.Elements.{All-nil, All-take}
use Rattle.sph_num.specs.Ranges.{most_particles}
use Rattle.cell_kern.specs.declared.members.Member.{Member}
use Rattle.cell_kern.specs.inner.Gathered.{IsPassed, IsSound, list_of, no_member}
use Rattle.cell_kern.proofs.Gathers.{given_none, given_all, given_part, given_next, given_by_next}
use Rattle.cell_kern.proofs.Lists.{length-list_of}
use Rattle.cell_kern.proofs.Rooms.{room_given, room_next}
use Rattle.cell_kern.proofs.pairs.between.Goals as goal

pub loop-i-init : goal.loop-i-init
loop-i-init g c =
    let first = list_of c.args.first.now in
    let second = list_of c.args.second.now in
    record { first = given_none g.P.Pairing.given first second c.args.first_sums.now; second = given_none g.P.Pairing.given second first c.args.second_sums.now }

pub near-requires-clause-room : goal.near-requires-clause-room
near-requires-clause-room g c =
    let first = list_of c.args.first.now in
    let second = list_of c.args.second.now in
    let i = c.loop-i.i in
    let r = c.index-first_sums-i.result in
    let has_room = g.P.Pairing.has_room in
    let long = length-list_of c.args.first.now c.requires.first in
    λ due. subst (has_room most_particles) (sym c.index-first_sums-i.is)
    (room_next g.P.Pairing.given has_room c.requires.laws first second [] i c.args.first_sums.now c.loop-i.first_sums r (2 * most_particles) most_particles (omega (arith, c.requires.first_count)) (omega arith) c.requires.first.sound (All-nil IsSound)
    (omega arith) c.requires.first_room c.loop-i.invariant.first (ap (λ (m : Member). m.due) (sym c.at-one.ensures) ∙ due))

pub near-requires-clause-rooms : goal.near-requires-clause-rooms
near-requires-clause-rooms g c =
    let first = list_of c.args.first.now in
    let second = list_of c.args.second.now in
    let long = length-list_of c.args.first.now c.requires.first in
    let all = c.requires.first.sound in
    room_given g.P.Pairing.given g.P.Pairing.has_room c.requires.laws second first (take c.loop-i.i first) 0 c.args.second_sums.now c.loop-i.second_sums (2 * most_particles) 1 (omega (arith, c.requires.second_count, length-list_of c.args.second.now c.requires.second)) c.requires.second.sound all (All-take IsSound c.loop-i.i first all)
    (omega (arith, c.requires.first.few)) (omega (arith, c.requires.first.few, length-take-le c.loop-i.i first (omega arith))) c.requires.second_room c.loop-i.invariant.second

pub loop-i-preserved : goal.loop-i-preserved
loop-i-preserved g c =
    let given = g.P.Pairing.given in
    let first = list_of c.args.first.now in
    let second = list_of c.args.second.now in
    let i = c.loop-i.i in
    let r = c.index-first_sums-i.result in
    let long = length-list_of c.args.first.now c.requires.first in
    let sums = c.loop-i.second_sums in
    let row = ap (λ (m : Member). fold (given m) r second) c.at-one.ensures ∙ ap (λ x. fold (given (get_or first i no_member)) x second) c.index-first_sums-i.is in
    let passed = subst (λ (m : Member). IsPassed given m second 0 (length sums) sums c.near.new.sums) c.at-one.ensures c.near.ensures.others in
    record {
      first = given_next given first second i c.args.first_sums.now c.loop-i.first_sums _ r c.near.new.sum (omega (arith, c.requires.first_count)) c.loop-i.invariant.first (c.near.ensures.own ∙ row) refl;
      second = given_by_next given second first i c.args.second_sums.now sums c.near.new.sums (omega arith) c.loop-i.invariant.second passed;
    }

pub returns-clause-first : goal.returns-clause-first
returns-clause-first g c =
    let long = length-list_of c.args.first.now c.requires.first in
    given_all g.P.Pairing.given (list_of c.args.first.now) (list_of c.args.second.now) [] c.loop-i.i c.args.first_sums.now c.loop-i.first_sums (omega (arith, c.requires.first_count)) (omega arith) c.loop-i.invariant.first

pub returns-clause-second : goal.returns-clause-second
returns-clause-second g c =
    let first = list_of c.args.first.now in
    let long = length-list_of c.args.first.now c.requires.first in
    given_part g.P.Pairing.given (list_of c.args.second.now) first (take c.loop-i.i first) c.args.second_sums.now c.loop-i.second_sums (omega (arith, c.requires.second_count, length-list_of c.args.second.now c.requires.second)) (take_all c.loop-i.i first (omega arith)) c.loop-i.invariant.second
