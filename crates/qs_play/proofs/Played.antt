-- The machine after an event, and the place of the word that it changes.
use Rattle.std.proofs.Common.{◌≡◌, ◌↔◌, ℕ, ◌-◌, ◌<◌, List, length, get_or, set, Option, Some, refl, sym, ap, ap₂, subst, ◌∙◌, arith, length-set}
use Rattle.std.specs.Prelude.{unwrap_or}
use Rattle.std.specs.List.{Any}
use Rattle.std.proofs.lemmas.Option.{get_or_from_slice_get, slice_get_read, slice_get_within}
use Rattle.qs_core.specs.declared.event.Event.{Event}
use Rattle.qs_core.specs.declared.event.Note.{Note}
use Rattle.qs_core.specs.declared.event.Step.{Step}
use Rattle.qs_core.specs.declared.event.Step.TheVariants.{Lock, Raise, Lower, Unlock, Fetch, Return, Claim, Release}
use Rattle.qs_core.specs.Shape.{Shape, IsShape, Touches, ancestors}
use Rattle.qs_core.specs.Core.{Core, View, empty_view, view_at, word_count}
use Rattle.qs_core.specs.Sound.{IsClaimed, IsDone, IsSound}
use Rattle.qs_core.specs.Steps.{Allowed, IsAllowed, exchanged, newest, object_of, seen_by, view_after, place_of}
use Rattle.qs_core.specs.Machine.{IsMachine, Machine, note_of, played}
use Rattle.qs_play.specs.inner.Stored.{machine_of}
use Rattle.qs_core.specs.inner.Held.{RunsOn}
use Rattle.qs_core.proofs.DoneSteps.{runs_some}
use Rattle.qs_core.proofs.Ancestors.{ancestor_is_cell}
use Rattle.qs_core.proofs.Chains.{newest_is}
use Rattle.qs_core.proofs.SoundKept.{sound_kept}
use Rattle.qs_core.proofs.Tasks.{IsReleasing-from}

-- a claimed task is done on a leaf that it touches where no view has the leaf of it left
pub done_is : (shape : Shape) (core : Core) (task leaf : ℕ) → Touches shape task leaf → IsClaimed shape core task
    → (Any (λ (v : View). RunsOn v.running task leaf) core.views → ⊥) ↔ IsDone shape core task leaf
done_is shape core task leaf touches claimed = (
  λ none. record {
    touches = touches;
    claimed = claimed;
    none_left = λ seat view running v r h. none (
      seat,
      view,
      slice_get_within core.views seat view v.is,
      get_or_from_slice_get core.views seat view view v.is,
      subst (λ x. RunsOn x task leaf) (sym r.is) (r.of_task, h),
    );
  },
  λ done left.
      let r = runs_some left.1.running task leaf left.4 in
      let at = slice_get_read core.views (length core.views) left.0 left.1 refl left.2 (sym left.3) in
      done.none_left left.0 left.1 r.running (record { is = at }) (record { is = r.is; of_task = r.of_task }) r.left,
)

-- the place of an allowed step's word is one of the places
pub place_within : (shape : Shape) (core : Core) (seat : ℕ) (step : Step) → IsShape shape → IsSound shape core → seat < length core.views → Allowed shape (view_at core.views seat) step
    → place_of shape step (object_of shape (view_at core.views seat) step) < word_count shape
place_within shape core seat (Lock cell) is s l can = let h = can.is_cell in omega arith
place_within shape core seat Raise is s l can =
    let view = view_at core.views seat in
    let h = ancestor_is_cell shape is (newest view).cell (newest view).raises can.not_all in omega arith
place_within shape core seat Lower is s l can =
    let view = view_at core.views seat in
    let n = newest_is shape core seat l s.locks.cells can.some in
    let r = can.raised in
    let few = n.1 in
    let k : (newest view).raises - 1 < length (ancestors shape (newest view).cell) = omega arith in
    let h = ancestor_is_cell shape is (newest view).cell ((newest view).raises - 1) k in omega arith
place_within shape core seat Unlock is s l can = let n = newest_is shape core seat l s.locks.cells can.some in let h = n.0 in omega arith
place_within shape core seat (Fetch leaf) is s l can = let h = can.is_leaf in omega arith
place_within shape core seat (Return leaf) is s l can = let h = can.is_leaf in omega arith
place_within shape core seat (Claim task) is s l can = let h = can.is_task in omega arith
place_within shape core seat Release is s l can = let r = IsReleasing-from shape core seat is s l can in let next = r.next in let h = r.is_task in omega arith

-- an allowed event keeps what every machine keeps
pub machine_kept : (m : Machine) (event : Event) → IsMachine m → IsAllowed m.shape m.core event → IsMachine (played m event)
machine_kept m event is can =
    let notes : length (played m event).notes ≡ length m.notes = length-set m.notes event.seat (Some (note_of m event)) in
    let views : length (played m event).core.views ≡ length m.core.views =
    length-set m.core.views event.seat (view_after m.shape (view_at m.core.views event.seat) event.step (seen_by m.shape m.core event.seat event.step)) in
    record {
      shape = is.shape;
      sound = sound_kept m.shape m.core event is.shape is.sound can;
      one_note_each = notes ∙ is.one_note_each ∙ sym views;
    }

-- a view that was read
pub read_view : (views : List View) (seat : ℕ) (view : View) → seat < length views → view ≡ get_or views seat view → view ≡ view_at views seat
read_view views seat view l e = sym (ap (λ o. unwrap_or o empty_view) (slice_get_read views (length views) seat view refl l e))

-- so is that of the word of the step that left the note
pub place_below : (m : Machine) (event : Event) (note : Note) (place : ℕ) → IsMachine m → IsAllowed m.shape m.core event → note ≡ note_of m event
    → place ≡ place_of m.shape event.step note.cell → place < length m.core.words
place_below m event note place is can n p =
    let within = place_within m.shape m.core event.seat event.step is.shape is.sound can.seat can.step in
    let e : place ≡ place_of m.shape event.step (object_of m.shape (view_at m.core.views event.seat) event.step) = p ∙ ap (λ (x : Note). place_of m.shape event.step x.cell) n in
    subst (λ k. k < length m.core.words) (sym e) (subst (λ k. place_of m.shape event.step (object_of m.shape (view_at m.core.views event.seat) event.step) < k) (sym is.sound.locks.words) within)

-- the parts of the machine after an event
pub played_parts : (shape : Shape) (words : List ℕ) (views : List View) (notes : List (Option Note)) (event : Event) (note : Note) (place value : ℕ) (before after : View)
    → note ≡ note_of (machine_of shape words views notes) event → place ≡ place_of shape event.step note.cell → value ≡ exchanged event.step note.seen
    → before ≡ view_at views event.seat → after ≡ view_after shape before event.step note.seen
    → machine_of shape (set words place value) (set views event.seat after) (set notes event.seat (Some note)) ≡ played (machine_of shape words views notes) event
played_parts shape words views notes event note place value before after n p v b a =
    let m = machine_of shape words views notes in
    let made = note_of m event in
    let place' : place ≡ place_of shape event.step made.cell = p ∙ ap (λ (x : Note). place_of shape event.step x.cell) n in
    let value' : value ≡ exchanged event.step made.seen = v ∙ ap (λ (x : Note). exchanged event.step x.seen) n in
    let after' : after ≡ view_after shape (view_at views event.seat) event.step made.seen = a ∙ ap₂ (λ (w : View) (x : Note). view_after shape w event.step x.seen) b n in
    λ i. machine_of shape (set words (place' i) (value' i)) (set views event.seat (after' i)) (set notes event.seat (Some (n i)))
