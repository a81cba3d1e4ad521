use Rattle.std.proofs.Common.{◌≡◌, ◌<◌, sym, ap, ap₂, subst, ◌∙◌}
use Rattle.qs_core.specs.Core.{view_at, word_count}
use Rattle.qs_core.specs.Machine.{IsMachine}
use Rattle.qs_core.specs.Steps.{object_of, place_of}
use Rattle.qs_play.proofs.Played.{place_within}
use Rattle.qs_play.proofs.state.State.note_of.Goals as goal

pub word_at-requires : goal.word_at-requires
word_at-requires c =
    let m = c.args.self.now in
    let event = c.args.event in
    let is = subst IsMachine c.self.view_is c.self.invariant in
    let layout : c.self.inside.layout ≡ m.shape = ap (λ x. x.shape) c.self.view_is in
    let object = c.object-cell.ensures ∙ ap₂ (λ l v. object_of l v event.step) layout c.seat.ensures in
    let place : c.place.result ≡ place_of m.shape event.step (object_of m.shape (view_at m.core.views event.seat) event.step) = c.place.ensures ∙ ap₂ (λ l o. place_of l event.step o) layout object in
    subst (λ k. k < word_count m.shape) (sym place) (place_within m.shape m.core event.seat event.step is.shape is.sound c.requires.seat c.requires.step)
