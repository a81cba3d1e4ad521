use Rattle.std.proofs.Common.{◌≡◌, sym, ap, subst, ◌∙◌, arith}
use Rattle.qs_core.specs.Machine.{IsMachine, note_of, played}
use Rattle.qs_play.specs.inner.Stored.{machine_of}
use Rattle.qs_core.specs.Steps.{IsAllowed}
use Rattle.qs_play.proofs.Played.{machine_kept, place_below, played_parts, read_view}
use Rattle.qs_play.proofs.state.State.make.Goals as goal

pub index_mut-requires : goal.index_mut-requires
index_mut-requires c =
    let m = machine_of c.self.inside.layout c.self.inside.words.items c.self.inside.seats.items c.self.inside.notes.items in
    let can = subst (λ x. IsAllowed x.shape x.core c.args.event) (sym c.self.view_is) c.requires in
    let note = subst (λ x. c.note_of-note.result ≡ note_of x c.args.event) (sym c.self.view_is) c.note_of-note.ensures in
    let below = place_below m c.args.event c.note_of-note.result c.place-place.result c.self.invariant can note c.place-place.ensures in
    let counted = c.self.inside.words.ok in
    omega arith

pub invariant_of-self-2 : goal.invariant_of-self-2
invariant_of-self-2 c =
    let m = machine_of c.self.inside.layout c.self.inside.words.items c.self.inside.seats.items c.self.inside.notes.items in
    let can = subst (λ x. IsAllowed x.shape x.core c.args.event) (sym c.self.view_is) c.requires in
    let note = subst (λ x. c.note_of-note.result ≡ note_of x c.args.event) (sym c.self.view_is) c.note_of-note.ensures in
    let before = read_view c.self.inside.seats.items c.args.event.seat c.index_mut-changed.result.now can.seat c.index_mut-changed.ensures.value in
    let parts = played_parts c.self.inside.layout c.self.inside.words.items c.self.inside.seats.items c.self.inside.notes.items c.args.event c.note_of-note.result c.place-place.result
    c.exchanged.result c.index_mut-changed.result.now c.make.new.self note c.place-place.ensures c.exchanged.ensures before c.in_ok-make.ensures.made in
    subst IsMachine (sym parts) (machine_kept m c.args.event c.self.invariant can)

pub returns-clause-made : goal.returns-clause-made
returns-clause-made c =
    let can = subst (λ x. IsAllowed x.shape x.core c.args.event) (sym c.self.view_is) c.requires in
    let note = subst (λ x. c.note_of-note.result ≡ note_of x c.args.event) (sym c.self.view_is) c.note_of-note.ensures in
    let before = read_view c.self.inside.seats.items c.args.event.seat c.index_mut-changed.result.now can.seat c.index_mut-changed.ensures.value in
    let parts = played_parts c.self.inside.layout c.self.inside.words.items c.self.inside.seats.items c.self.inside.notes.items c.args.event c.note_of-note.result c.place-place.result
    c.exchanged.result c.index_mut-changed.result.now c.make.new.self note c.place-place.ensures c.exchanged.ensures before c.in_ok-make.ensures.made in
    parts ∙ ap (λ x. played x c.args.event) c.self.view_is

pub returns-clause-machine : goal.returns-clause-machine
returns-clause-machine c = invariant_of-self-2 c
