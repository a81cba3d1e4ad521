-- A call that holds a queue leaves one lock note and one unlock note.
use Rattle.std.proofs.Common.{◌≡◌, ℕ, ◌+◌, List, [], ◌∷◌, Option, Some, None, sym, ap, ◌∙◌, subst}
use Rattle.std.proofs.lemmas.List.{append_assoc}
use Rattle.atomic_table.specs.Seated.{TableId}
use Rattle.qs_heap.specs.declared.entry.Entry.{Entry}
use Rattle.qs_heap.specs.Heap.{Heap}
use Rattle.qs_queues.specs.declared.view.Held.{Held}
use Rattle.qs_queues.specs.declared.view.QueueNote.{QueueNote}
use Rattle.qs_queues.specs.declared.view.QueueNote.TheVariants.{Locked, Unlocked}
use Rattle.qs_queues.specs.declared.view.QueueView.{QueueView}
use Rattle.qs_queues.specs.Calls.{hold_notes}
use Rattle.qs_queues.specs.Rule.{IsRightHeap}
use Rattle.qs_queues.specs.Seats.{IsQueueSeatOf, QueuesView, QueueTokenView}
use Rattle.qs_queues.specs.Views.{with_note, with_notes}
use Rattle.qs_queues.specs.inner.Holds.{GotHeap}
use Rattle.qs_queues.specs.inner.Plays.{Mine}

-- what a seat has when it brought a heap home
pub record Holds (queue : ℕ) (before after : Mine) (found left : List Entry) : Type 0 where
  pub number : ℕ
  pub view : after.0 ≡ with_notes before.0 (hold_notes queue number found left)
  pub none_held : after.0.held ≡ None
  pub no_slot : after.1 ≡ []

abbrev with_all : QueueView → Option Held → List QueueNote → QueueView
with_all v held notes = record { room = v.room; tasks = v.tasks; subtractions = v.subtractions; held = held; notes = notes }

pub holds : (queue : ℕ) (m0 m2 m3 : Mine) (heap heap' : Heap) → GotHeap queue m0 heap m2 → m0.0.held ≡ None
    → ((hold : Held) → m2.0.held ≡ Some hold → m3 ≡ (with_note m2.0 None (Unlocked queue (hold.before + 1) hold.found heap'.entries), [])) → Holds queue m0 m3 heap.entries heap'.entries
holds queue m0 m2 m3 heap heap' t none brought =
    let view : m2.0 ≡ with_note m0.0 (Some t.hold) (Locked queue 0) = ap (λ (m : Mine). m.0) t.after in
    let b = brought t.hold (ap (λ (v : QueueView). v.held) view) in
    let note : QueueNote = Unlocked queue (t.hold.before + 1) heap.entries heap'.entries in
    let w : QueueView = with_note m0.0 (Some t.hold) (Locked queue 0) in
    let step : m3 ≡ (with_note w None note, []) = b ∙ ap (λ (x : QueueView × List Entry). (with_note x.0 None (Unlocked queue (t.hold.before + 1) x.1 heap'.entries), [])) (λ i. (view i, t.found i)) in
    record {
      number = t.hold.before + 1;
      view = ap (λ (m : Mine). m.0) step ∙ ap (λ (x : Option Held × List QueueNote). with_all m0.0 x.0 x.1) (λ i. (sym none i, append_assoc m0.0.notes (Locked queue 0 ∷ []) (note ∷ []) i));
      none_held = ap (λ (m : Mine). m.0.held) step;
      no_slot = ap (λ (m : Mine). m.1) step;
    }

-- the seat's room and number of tasks are those at the lock
pub still_right : (queue : ℕ) (m0 m2 : Mine) (heap heap' : Heap) → GotHeap queue m0 heap m2 → IsRightHeap m0.0.room m0.0.tasks heap' → IsRightHeap m2.0.room m2.0.tasks heap'
still_right queue m0 m2 heap heap' t right =
    subst (λ (m : Mine). IsRightHeap m.0.room m.0.tasks heap') (sym t.after) right

-- further notes leave the seat with its queues
pub still_seated : (queues : QueuesView) (seat : QueueTokenView) (id : TableId) (view : QueueView) (further : List QueueNote) → IsQueueSeatOf queues seat → id ≡ seat.id → view ≡ with_notes seat.view further
    → IsQueueSeatOf queues (record { id = id; view = view })
still_seated queues seat id view further s e f = record {
  same = e ∙ s.same;
  room_is = ap (λ (v : QueueView). v.room) f ∙ s.room_is;
  tasks_are = ap (λ (v : QueueView). v.tasks) f ∙ s.tasks_are;
}
