-- The parts of a turn make what a turn says.
use Rattle.std.proofs.Common.{◌≡◌, ◌≢◌, ℕ, List, [], ◌∷◌, ◌++◌, Option, Some, None, refl, sym, ap, ◌∙◌, subst, append_assoc, append-nil, arith}
use Rattle.std.specs.Option.{option_to_list}
use Rattle.std.proofs.lemmas.List.Elements.{filter_map-append}
use Rattle.qs_core.specs.declared.event.Note.{Note}
use Rattle.qs_core.specs.Shape.{Shape}
use Rattle.qs_core.specs.Core.{empty_view}
use Rattle.qs_table.specs.declared.view.SeatView.{SeatView}
use Rattle.qs_table.specs.Claims.{freed_in, freed_of}
use Rattle.qs_table.specs.Seats.{TableView, TokenView}
use Rattle.qs_queues.specs.declared.view.QueueNote.{QueueNote}
use Rattle.qs_queues.specs.declared.view.QueueNote.TheVariants.{Loaded}
use Rattle.qs_queues.specs.declared.view.QueueView.{QueueView}
use Rattle.qs_queues.specs.Calls.{Noted}
use Rattle.qs_queues.specs.Seats.{QueuesView}
use Rattle.qs_queues.specs.Seats as queue
use Rattle.qs_queues.specs.Views.{with_less, with_notes}
use Rattle.qs_worker.specs.declared.turn.Turn.TheVariants.{Over, Ran, Idle}
use Rattle.qs_worker.specs.Rounds.{Found}
use Rattle.qs_worker.specs.Offers.{ArePushed}
use Rattle.qs_worker.specs.Refusals.{WasRefused}
use Rattle.qs_worker.specs.Turns.{Turned, WasDone, WorkerView, entry_in}
use Rattle.qs_worker.specs.inner.Claimed.{HasDone}
use Rattle.qs_worker.specs.inner.Trials.{HasLooked, IsTrial, TrialView, since}
use Rattle.qs_worker.proofs.Looked.{found_still}
use Rattle.qs_worker.proofs.Quiet.{claims-append, none_claimed_after}
use Rattle.qs_worker.proofs.Trying.{refused_more, since_is}

-- what a trial found is what a look left
pub has_looked : {P : Type 0} (shape : P → Shape) (table : TableView P) (queues own : ℕ) (t : TrialView P) (before after : SeatView) (q0 q1 : QueueView) (found : Option ℕ) → IsTrial shape t → t.start ≡ before → t.now.view ≡ after → t.table ≡ table
    → t.taken ≡ found → Noted (Found (WasRefused (shape t.table.plan) (since t.start.notes t.now.view.notes)) queues own found) q0 q1 → HasLooked (shape table.plan) queues own before q0 found after q1
has_looked {P} shape table queues own t before after q0 q1 found is start now same taken n =
    let g = is.trying.grown in
    let further : since t.start.notes t.now.view.notes ≡ g.further = since_is t.start.notes t.now.view.notes g.further g.is in
    let said = subst (λ (o : Option ℕ). Found (WasRefused (shape t.table.plan) (since t.start.notes t.now.view.notes)) queues own o n.further) (sym taken) n.said in
    let here : HasLooked (shape t.table.plan) queues own t.start q0 t.taken t.now.view q1 = record {
      trying = is.trying;
      notes = n.further;
      queue_notes = n.is;
      shown = subst (λ (ns : List Note). Found (WasRefused (shape t.table.plan) ns) queues own t.taken n.further) further said;
    } in
    subst (λ (x : TableView P). HasLooked (shape x.plan) queues own before q0 found after q1) same
    (subst (λ (o : Option ℕ). HasLooked (shape t.table.plan) queues own before q0 o after q1) taken
    (subst (λ (v : SeatView). HasLooked (shape t.table.plan) queues own before q0 t.taken v q1) now
    (subst (λ (v : SeatView). HasLooked (shape t.table.plan) queues own v q0 t.taken t.now.view q1) start here)))

three_more : {X : Type 0} (xs ys zs : List X) (x : X) → xs ++ ys ++ x ∷ [] ++ zs ≡ xs ++ (ys ++ x ∷ zs)
three_more xs ys zs x = append_assoc (xs ++ ys) (x ∷ []) zs ∙ append_assoc xs ys (x ∷ zs)

module _ {P : Type 0} (shape : Shape) (queues : QueuesView) (number : ℕ) (seat : TokenView P) (token : queue.QueueTokenView) (ready : List ℕ) where
  abbrev before : WorkerView P
  before = record { number = number; lock_seat = seat; queue_seat = token; ready = ready }

  -- the pushes and the load
  module _ (kept : List ℕ) (q1 q2 : QueueView) (left : ℕ) (pushed : Noted (ArePushed queues.room queues.queues number (entry_in shape) ready kept) token.view q1) (loaded : q2 ≡ with_notes q1 (Loaded left ∷ [])) where
    notes_then : q2.notes ≡ token.view.notes ++ pushed.further ++ Loaded left ∷ []
    notes_then = ap (λ (v : QueueView). v.notes) loaded ∙ ap (λ (ns : List QueueNote). ns ++ Loaded left ∷ []) (ap (λ (v : QueueView). v.notes) pushed.is)

    less_then : q2.subtractions ≡ token.view.subtractions
    less_then = ap (λ (v : QueueView). v.subtractions) loaded ∙ ap (λ (v : QueueView). v.subtractions) pushed.is

    -- no task was left
    pub is_over : (token' : queue.QueueTokenView) → token'.view ≡ q2 → left ≡ 0 → seat.view.holds ≡ empty_view → Turned shape queues Over before (record { number = number; lock_seat = seat; queue_seat = token'; ready = kept })
    is_over token' is none rests = record {
      number = refl;
      place = refl;
      rests = rests;
      locks = [];
      lock_notes = sym (append-nil seat.view.notes);
      pushes = pushed.further;
      left = left;
      looks = [];
      queue_notes = ap (λ (v : QueueView). v.notes) is ∙ notes_then ∙ append_assoc token.view.notes pushed.further (Loaded left ∷ []);
      less = 0;
      subtractions = (let a = ap (λ (v : QueueView). v.subtractions) is in let b = less_then in omega arith);
      kept = kept;
      pushed = pushed.said;
      ready = sym (append-nil kept);
      ends = (none, refl, refl, refl);
    }

    module _ (found : Option ℕ) (seat' : SeatView) (q3 : QueueView) (looked : HasLooked shape queues.queues number seat.view q2 found seat' q3) where
      notes_looked : q3.notes ≡ token.view.notes ++ (pushed.further ++ Loaded left ∷ looked.notes)
      notes_looked =
          ap (λ (v : QueueView). v.notes) looked.queue_notes
          ∙ ap (λ (ns : List QueueNote). ns ++ looked.notes) notes_then
          ∙ three_more token.view.notes pushed.further looked.notes (Loaded left)

      less_looked : q3.subtractions ≡ token.view.subtractions
      less_looked = ap (λ (v : QueueView). v.subtractions) looked.queue_notes ∙ less_then

      -- no task could be claimed
      pub is_idle : (seat'' : TokenView P) (token' : queue.QueueTokenView) → seat''.view ≡ seat' → token'.view ≡ q3 → found ≡ None → left ≢ 0 → Turned shape queues Idle before (record { number = number; lock_seat = seat''; queue_seat = token'; ready = kept })
      is_idle seat'' token' is is' none some_left =
          let t = looked.trying in record {
            number = refl;
            place = ap (λ (v : SeatView). v.place) is ∙ t.place;
            rests = ap (λ (v : SeatView). v.holds) is ∙ t.none none;
            locks = t.grown.further;
            lock_notes = ap (λ (v : SeatView). v.notes) is ∙ t.grown.is;
            pushes = pushed.further;
            left = left;
            looks = looked.notes;
            queue_notes = ap (λ (v : QueueView). v.notes) is' ∙ notes_looked;
            less = 0;
            subtractions = (let a = ap (λ (v : QueueView). v.subtractions) is' in let b = less_looked in omega arith);
            kept = kept;
            pushed = pushed.said;
            ready = sym (append-nil kept) ∙ ap (λ (ts : List ℕ). kept ++ ts) (sym t.grown.frees_none);
            ends = (some_left, subst (λ (o : Option ℕ). Found (WasRefused shape t.grown.further) queues.queues number o looked.notes) none looked.shown, t.grown.claims ∙ ap option_to_list none, refl);
          }

      -- a task was claimed and done
      pub has_run : (task : ℕ) (seat'' : TokenView P) (token' : queue.QueueTokenView) (ready' : List ℕ) → found ≡ Some task → HasDone shape task seat' seat''.view kept ready' → token'.view ≡ with_less q3 → left ≢ 0
          → Turned shape queues (Ran task) before (record { number = number; lock_seat = seat''; queue_seat = token'; ready = ready' })
      has_run task seat'' token' ready' some done less some_left =
          let t = looked.trying in
          let f = t.grown.further in
          let rest = done.quiet.further ++ done.further in
          let locks : List Note = f ++ rest in
          let took = t.some task some in
          let more : (k : ℕ) → WasRefused shape f k → WasRefused shape locks k = (λ k r. refused_more shape f rest k r) in
          let free : freed_in locks ≡ freed_in done.further =
          filter_map-append (λ (note : Note). freed_of note.kind note.cell note.seen) f rest ∙ ap (λ (ts : List ℕ). ts ++ freed_in rest) t.grown.frees_none
          ∙ filter_map-append (λ (note : Note). freed_of note.kind note.cell note.seen) done.quiet.further done.further ∙ ap (λ (ts : List ℕ). ts ++ freed_in done.further) done.quiet.frees_none in
          let was : WasDone shape task seat.view.notes locks = record {
            is_task = took.is_task;
            new = took.new;
            others = f ++ done.quiet.further;
            releases = done.further;
            is = sym (append_assoc f done.quiet.further done.further);
            claimed = claims-append f rest (t.grown.claims ∙ ap option_to_list some) (claims-append done.quiet.further done.further done.quiet.claims (none_claimed_after done.further done.releases.0));
            released = done.releases;
          } in
          record {
            number = refl;
            place = done.place ∙ t.place;
            rests = done.holds;
            locks = locks;
            lock_notes =
                done.notes
                ∙ ap (λ (ns : List Note). ns ++ done.further) done.quiet.is
                ∙ append_assoc seat'.notes done.quiet.further done.further
                ∙ ap (λ (ns : List Note). ns ++ rest) t.grown.is
                ∙ append_assoc seat.view.notes f rest;
            pushes = pushed.further;
            left = left;
            looks = looked.notes;
            queue_notes = ap (λ (v : QueueView). v.notes) less ∙ notes_looked;
            less = 1;
            subtractions = (let a = ap (λ (v : QueueView). v.subtractions) less in let b = less_looked in omega arith);
            kept = kept;
            pushed = pushed.said;
            ready = done.freed ∙ ap (λ (ts : List ℕ). kept ++ ts) (sym free);
            ends = (
              some_left,
              found_still (WasRefused shape f) (WasRefused shape locks) more queues.queues number task looked.notes (subst (λ (o : Option ℕ). Found (WasRefused shape f) queues.queues number o looked.notes) some looked.shown),
              was,
              refl,
            );
          }
