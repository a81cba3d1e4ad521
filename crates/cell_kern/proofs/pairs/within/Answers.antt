use Rattle.std.proofs.Common.{◌+◌, ◌*◌, ◌<◌, length, get_or, take, fold, subst, refl, sym, ap, ◌∙◌, arith}
use Rattle.std.specs.List.{between}
use Rattle.std.proofs.lemmas.List.{length-take-le}
use Rattle.std.proofs.lemmas.List.Elements.{All-take}
use Rattle.sph_num.specs.Ranges.{most_particles}
use Rattle.cell_kern.specs.declared.members.Member.{Member}
use Rattle.cell_kern.specs.inner.Gathered.{IsPassed, IsSound, list_of, no_member}
use Rattle.cell_kern.proofs.Gathers.{given_none, given_all, given_within}
use Rattle.cell_kern.proofs.Lists.{length-list_of, sound_at}
use Rattle.cell_kern.proofs.Rooms.{room_given, room_next}
use Rattle.cell_kern.proofs.pairs.within.Goals as goal

pub loop-i-init : goal.loop-i-init
loop-i-init g c = given_none g.P.Pairing.given (list_of c.args.members.now) (list_of c.args.members.now) c.args.sums.now

pub add_own-requires-clause-room : goal.add_own-requires-clause-room
add_own-requires-clause-room g c =
    let list = list_of c.args.members.now in
    let i = c.loop-i.i in
    let r = c.index-sums-i.result in
    let all = c.requires.members.sound in
    let long = length-list_of c.args.members.now c.requires.members in
    let inside : i < length list = omega arith in
    λ due. subst (g.P.Pairing.has_room 1) (sym c.index-sums-i.is)
    (room_next g.P.Pairing.given g.P.Pairing.has_room c.requires.laws list list (take i list) i c.args.sums.now c.loop-i.sums r (2 * most_particles) 1 (omega (arith, c.requires.count)) inside all (All-take IsSound i list all)
    (omega (arith, c.requires.members.few, length-take-le i list (omega arith))) c.requires.room c.loop-i.invariant (ap (λ (m : Member). m.due) (sym c.at-one.ensures) ∙ due))

pub row-requires-clause-room : goal.row-requires-clause-room
row-requires-clause-room g c =
    let has_room = g.P.Pairing.has_room in
    let list = list_of c.args.members.now in
    let i = c.loop-i.i in
    let r = c.index-sums-i.result in
    let all = c.requires.members.sound in
    let long = length-list_of c.args.members.now c.requires.members in
    let inside : i < length list = omega arith in
    let sound = subst IsSound (sym c.at-one.ensures) (sound_at c.args.members.now i c.requires.members c.loop-i-test.true) in
    λ due. subst (has_room most_particles) (sym c.add_own.ensures) (c.requires.laws.takes most_particles c.at-one.result c.at-one.result r sound sound (subst (has_room (most_particles + 1)) (sym c.index-sums-i.is)
    (room_next g.P.Pairing.given has_room c.requires.laws list list (take i list) i c.args.sums.now c.loop-i.sums r (2 * most_particles) (most_particles + 1) (omega (arith, c.requires.count)) inside all (All-take IsSound i list all)
    (omega (arith, c.requires.members.few, length-take-le i list (omega arith))) c.requires.room c.loop-i.invariant (ap (λ (m : Member). m.due) (sym c.at-one.ensures) ∙ due))))

pub row-requires-clause-rooms : goal.row-requires-clause-rooms
row-requires-clause-rooms g c =
    let list = list_of c.args.members.now in
    let i = c.loop-i.i in
    let all = c.requires.members.sound in
    let long = length-list_of c.args.members.now c.requires.members in
    room_given g.P.Pairing.given g.P.Pairing.has_room c.requires.laws list list (take i list) i c.args.sums.now c.loop-i.sums (2 * most_particles) 1 (omega (arith, c.requires.count)) all all (All-take IsSound i list all)
    (omega (arith, c.requires.members.few)) (omega (arith, c.requires.members.few, length-take-le i list (omega arith))) c.requires.room c.loop-i.invariant

pub loop-i-preserved : goal.loop-i-preserved
loop-i-preserved g c =
    let given = g.P.Pairing.given in
    let list = list_of c.args.members.now in
    let i = c.loop-i.i in
    let r = c.index-sums-i.result in
    let one = get_or list i no_member in
    let sums = c.loop-i.sums in
    let long = length-list_of c.args.members.now c.requires.members in
    let own = c.add_own.ensures ∙ ap (λ (m : Member). given m r m) c.at-one.ensures ∙ ap (λ x. given one x one) c.index-sums-i.is in
    let row = c.row.ensures.own ∙ ap (λ (m : Member). fold (given m) c.add_own.new.sum (between (i + 1) (length sums) list)) c.at-one.ensures in
    let passed = subst (λ (m : Member). IsPassed given m list (i + 1) (length sums) sums c.row.new.sums) c.at-one.ensures c.row.ensures.others in
    given_within given list i c.args.sums.now sums c.row.new.sums _ r c.add_own.new.sum c.row.new.sum (omega (arith, c.requires.count)) (omega arith) c.loop-i.invariant own row passed refl

pub returns : goal.returns
returns g c =
    let list = list_of c.args.members.now in
    let long = length-list_of c.args.members.now c.requires.members in
    given_all g.P.Pairing.given list list (take c.loop-i.i list) c.loop-i.i c.args.sums.now c.loop-i.sums (omega (arith, c.requires.count)) (omega arith) c.loop-i.invariant
