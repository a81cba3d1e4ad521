-- One scan more.
use Rattle.std.proofs.Common.{◌≡◌, ℕ, ◌+◌, ◌<◌, List, [], ◌∷◌, ◌++◌, Option, Some, None, length, refl, sym, ap, ◌∙◌, subst, inl, inr, append-nil, arith}
use Rattle.std.proofs.lemmas.Option.{none-some}
use Rattle.std.proofs.lemmas.List.{length_push}
use Rattle.std.proofs.lemmas.List.Elements.{All-nil, All-push, All-weaker}
use Rattle.std.proofs.lemmas.List.Concat.{flat_map-append}
use Rattle.qs_queues.specs.declared.answers.Scan.{Scan}
use Rattle.qs_queues.specs.declared.answers.Scan.TheVariants.{Got, Held, Empty, AllBusy}
use Rattle.qs_queues.specs.declared.view.QueueNote.{QueueNote}
use Rattle.qs_queues.specs.declared.view.QueueView.{QueueView}
use Rattle.qs_queues.specs.Calls.{Noted, SaysScan, WasGot}
use Rattle.qs_queues.specs.Views.{with_notes}
use Rattle.qs_worker.specs.Rounds.{AreLooked, Found, FoundNone, FoundOne, Scanned, TookNone, notes_of_scans}
use Rattle.qs_worker.specs.Offers.{queue_at}
use Rattle.qs_worker.proofs.Longer.{more_notes, no_notes, snoc_cases}

-- the first so many queues gave nothing
pub record Misses (refused : ℕ → Type 0) (queues own k : ℕ) (before now : QueueView) : Type 0 where
  pub scans : List Scanned
  pub view : now ≡ with_notes before (notes_of_scans scans)
  pub count : length scans ≡ k
  pub looked : AreLooked refused queues own scans

-- a scan that isn't Got
abbrev pub is_got : Scan → Type 0
is_got (Got task) = Unit {0}
is_got _ = ⊥

module _ (old new : ℕ → Type 0) (kept : (t : ℕ) → old t → new t) where
  -- what was refused stays so
  took_still : (queue : ℕ) (answer : Scan) (notes : List QueueNote) → TookNone old queue answer notes → TookNone new queue answer notes
  took_still queue (Got task) notes t = absurd t
  took_still queue (Held seen) notes t = t
  took_still queue Empty notes t = t
  took_still queue AllBusy notes t = record {
    number = t.number;
    found = t.found;
    notes_are = t.notes_are;
    some = t.some;
    refusals = λ place l. kept _ (t.refusals place l);
  }

  pub looked_still : (queues own : ℕ) (scans : List Scanned) → AreLooked old queues own scans → AreLooked new queues own scans
  looked_still queues own scans l = record {
    each = All-weaker (λ (s : Scanned). TookNone old s.queue s.answer s.notes) (λ (s : Scanned). TookNone new s.queue s.answer s.notes) (λ s t. took_still s.queue s.answer s.notes t) scans l.each;
    in_order = l.in_order;
  }

  pub none_still : (queues own : ℕ) (notes : List QueueNote) → FoundNone old queues own notes → FoundNone new queues own notes
  none_still queues own notes f = record { scans = f.scans; notes_are = f.notes_are; every = f.every; looked = looked_still queues own f.scans f.looked }

  pub found_still : (queues own task : ℕ) (notes : List QueueNote) → FoundOne old queues own task notes → FoundOne new queues own task notes
  found_still queues own task notes f =
      let t = f.got.taken in record {
        scans = f.scans;
        last = f.last;
        notes_are = f.notes_are;
        few = f.few;
        looked = looked_still queues own f.scans f.looked;
        got = record {
          number = f.got.number;
          found = f.got.found;
          left = f.got.left;
          notes_are = f.got.notes_are;
          taken = record { place = t.place; inside = t.inside; taken = t.taken; before = λ place l. kept _ (t.before place l); rest = t.rest; moved = t.moved };
        };
      }

module _ (queues own : ℕ) where
  pub none_yet : (refused : ℕ → Type 0) (v : QueueView) → Misses refused queues own 0 v v
  none_yet refused v = record {
    scans = [];
    view = no_notes v;
    count = refl;
    looked = record { each = All-nil (λ (s : Scanned). TookNone refused s.queue s.answer s.notes); in_order = λ k p e. absurd (none-some p e) };
  }

  one_note : (scans : List Scanned) (s : Scanned) → notes_of_scans (scans ++ s ∷ []) ≡ notes_of_scans scans ++ s.notes
  one_note scans s = flat_map-append (λ (t : Scanned). t.notes) scans (s ∷ []) ∙ ap (λ (ns : List QueueNote). notes_of_scans scans ++ ns) (append-nil s.notes)

  -- the next queue gave nothing too
  pub one_miss : (old new : ℕ → Type 0) → ((t : ℕ) → old t → new t) → (k queue : ℕ) (answer : Scan) (v w u : QueueView) → Misses old queues own k v w → queue ≡ queue_at own queues k
      → Noted (TookNone new queue answer) w u → Misses new queues own (k + 1) v u
  one_miss old new kept k queue answer v w u m place n =
      let s : Scanned = record { queue = queue; answer = answer; notes = n.further } in
      let l = looked_still old new kept queues own m.scans m.looked in
      record {
        scans = m.scans ++ s ∷ [];
        view = more_notes v w u (notes_of_scans m.scans) n.further m.view n.is ∙ ap (with_notes v) (sym (one_note m.scans s));
        count = length_push m.scans s ∙ ap (λ (j : ℕ). j + 1) m.count;
        looked = record {
          each = All-push (λ (x : Scanned). TookNone new x.queue x.answer x.notes) m.scans s l.each n.said;
          in_order = λ j p e. elim (snoc_cases m.scans s j p e) [
            | inl q ↦ l.in_order j p q
            | inr q ↦ ap (λ (x : Scanned). x.queue) (sym q.1) ∙ place ∙ ap (queue_at own queues) (sym (q.0 ∙ m.count))
          ];
        };
      }

  -- the next queue gave the task
  pub got : (old new : ℕ → Type 0) (taken : Option ℕ) → ((t : ℕ) → old t → new t) → (k queue task : ℕ) (v w u : QueueView) → Misses old queues own k v w → k < queues → queue ≡ queue_at own queues k
      → Noted (SaysScan new taken queue (Got task)) w u → Noted (Found new queues own (Some task)) v u
  got old new taken kept k queue task v w u m few place n = record {
    further = notes_of_scans m.scans ++ n.further;
    is = more_notes v w u (notes_of_scans m.scans) n.further m.view n.is;
    said = record {
      scans = m.scans;
      last = n.further;
      notes_are = refl;
      few = (let c = m.count in omega arith);
      looked = looked_still old new kept queues own m.scans m.looked;
      got = subst (λ (q : ℕ). WasGot new q task n.further) (place ∙ ap (queue_at own queues) (sym m.count)) n.said.1;
    };
  }

  -- no queue gave one
  pub none_found : (refused : ℕ → Type 0) (k : ℕ) (v w : QueueView) → Misses refused queues own k v w → k ≡ queues → Noted (Found refused queues own None) v w
  none_found refused k v w m all = record { further = notes_of_scans m.scans; is = m.view; said = record { scans = m.scans; notes_are = refl; every = m.count ∙ all; looked = m.looked } }

-- a scan that isn't Got took nothing
pub not_got : (new : ℕ → Type 0) (taken : Option ℕ) (queue : ℕ) (answer : Scan) (w u : QueueView) → (is_got answer → ⊥) → Noted (SaysScan new taken queue answer) w u → (taken ≡ None) × Noted (TookNone new queue answer) w u
not_got new taken queue (Got task) w u other n = absurd (other tt)
not_got new taken queue (Held seen) w u other n = (n.said.0, record { further = n.further; is = n.is; said = n.said.1 })
not_got new taken queue Empty w u other n = (n.said.0, record { further = n.further; is = n.is; said = n.said.1 })
not_got new taken queue AllBusy w u other n = (n.said.0, record { further = n.further; is = n.is; said = n.said.1 })
