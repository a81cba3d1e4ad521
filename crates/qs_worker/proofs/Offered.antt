-- One push more of an entry.
use Rattle.std.proofs.Common.{◌≡◌, ℕ, ◌+◌, true, false, List, [], ◌∷◌, ◌++◌, All, length, refl, sym, ap, ◌∙◌, inl, inr, append-nil}
use Rattle.std.proofs.lemmas.Option.{none-some}
use Rattle.std.proofs.lemmas.List.{length_push}
use Rattle.std.proofs.lemmas.List.Elements.{All-nil, All-push}
use Rattle.std.proofs.lemmas.List.Concat.{flat_map-append}
use Rattle.qs_heap.specs.declared.entry.Entry.{Entry}
use Rattle.qs_queues.specs.declared.answers.Push.{Push}
use Rattle.qs_queues.specs.declared.answers.Push.TheVariants.{In}
use Rattle.qs_queues.specs.declared.view.QueueNote.{QueueNote}
use Rattle.qs_queues.specs.declared.view.QueueView.{QueueView}
use Rattle.qs_queues.specs.Calls.{Noted, SaysPush}
use Rattle.qs_queues.specs.Views.{with_notes}
use Rattle.qs_worker.specs.Offers.{IsOffered, IsTurnedAway, Pushed, is_in, notes_of_pushes, queue_at}
use Rattle.qs_worker.specs.inner.Pushing.{Offered}
use Rattle.qs_worker.proofs.Longer.{more_notes, no_notes, snoc_cases}

-- the first so many queues turned the entry away
pub record Refusals (room queues own : ℕ) (entry : Entry) (k : ℕ) (before now : QueueView) : Type 0 where
  pub pushes : List Pushed
  pub view : now ≡ with_notes before (notes_of_pushes pushes)
  pub count : length pushes ≡ k
  pub offered : IsOffered room queues own entry pushes
  pub refusals : All IsTurnedAway pushes

module _ (room queues own : ℕ) (entry : Entry) where
  abbrev Holds : Pushed → Type 0
  Holds p = (p.entry ≡ entry) × SaysPush room p.queue p.entry p.answer p.notes

  pub none_yet : (v : QueueView) → Refusals room queues own entry 0 v v
  none_yet v = record {
    pushes = [];
    view = no_notes v;
    count = refl;
    offered = record { each = All-nil Holds; in_order = λ k p e. absurd (none-some p e) };
    refusals = All-nil IsTurnedAway;
  }

  one_note : (pushes : List Pushed) (p : Pushed) → notes_of_pushes (pushes ++ p ∷ []) ≡ notes_of_pushes pushes ++ p.notes
  one_note pushes p = flat_map-append (λ (q : Pushed). q.notes) pushes (p ∷ []) ∙ ap (λ (ns : List QueueNote). notes_of_pushes pushes ++ ns) (append-nil p.notes)

  abbrev made : ℕ → Push → List QueueNote → Pushed
  made queue answer notes = record { queue = queue; entry = entry; answer = answer; notes = notes }

  more_offered : (k queue : ℕ) (answer : Push) (notes : List QueueNote) (pushes : List Pushed) → length pushes ≡ k → queue ≡ queue_at own queues k → SaysPush room queue entry answer notes
      → IsOffered room queues own entry pushes → IsOffered room queues own entry (pushes ++ made queue answer notes ∷ [])
  more_offered k queue answer notes pushes count place says o = record {
    each = All-push Holds pushes (made queue answer notes) o.each (refl, says);
    in_order = λ j p e. elim (snoc_cases pushes (made queue answer notes) j p e) [
      | inl q ↦ o.in_order j p q
      | inr q ↦ ap (λ (x : Pushed). x.queue) (sym q.1) ∙ place ∙ ap (queue_at own queues) (sym (q.0 ∙ count))
    ];
  }

  -- the next queue turned it away too
  pub one_refusal : (k queue : ℕ) (answer : Push) (v w u : QueueView) → Refusals room queues own entry k v w → queue ≡ queue_at own queues k → Noted (SaysPush room queue entry answer) w u → is_in answer ≡ false
      → Refusals room queues own entry (k + 1) v u
  one_refusal k queue answer v w u r place n refused =
      let p : Pushed = made queue answer n.further in
      record {
        pushes = r.pushes ++ p ∷ [];
        view = more_notes v w u (notes_of_pushes r.pushes) n.further r.view n.is ∙ ap (with_notes v) (sym (one_note r.pushes p));
        count = length_push r.pushes p ∙ ap (λ (j : ℕ). j + 1) r.count;
        offered = more_offered k queue answer n.further r.pushes r.count place n.said r.offered;
        refusals = All-push IsTurnedAway r.pushes p r.refusals refused;
      }

  -- the next queue took it
  pub took : (k queue : ℕ) (v w u : QueueView) → Refusals room queues own entry k v w → queue ≡ queue_at own queues k → Noted (SaysPush room queue entry In) w u → Offered room queues own entry true v u
  took k queue v w u r place n =
      let p : Pushed = made queue In n.further in (
        r.pushes ++ p ∷ [],
        more_notes v w u (notes_of_pushes r.pushes) n.further r.view n.is ∙ ap (with_notes v) (sym (one_note r.pushes p)),
        record { offered = more_offered k queue In n.further r.pushes r.count place n.said r.offered; before = r.pushes; last = p; is = refl; refusals = r.refusals; took = refl },
      )

  -- every queue turned it away
  pub none_took : (k : ℕ) (v w : QueueView) → Refusals room queues own entry k v w → k ≡ queues → Offered room queues own entry false v w
  none_took k v w r all = (r.pushes, r.view, record { offered = r.offered; every = r.count ∙ all; refusals = r.refusals })
